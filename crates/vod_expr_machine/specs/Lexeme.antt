-- The tokens of expressions, and their trees at a place.
use Rattle.std.specs.Prelude.{ℕ, List}
use Rattle.vod_token.specs.declared.TokenKind.{TokenKind}
use Rattle.vod_token.specs.declared.value.Literal.{Literal}
use Rattle.vod_tree.specs.declared.expr.Expr.{Expr, roll-Expr}
use Rattle.vod_tree.specs.declared.expr.ExprKind.{ExprKind}
use Rattle.vod_tree.specs.declared.ident.Ident.{Ident}
use Rattle.vod_tree.specs.declared.ident.Number.{Number}

-- A token as the grammar sees it: its kind, its spelling and its place. So what follows a run need not stand in its source.
pub record Lexeme : Type 0 where
  pub kind : TokenKind
  pub text : List ℕ
  pub place : ℕ

-- the tree of a name
abbrev pub ident_of : Lexeme → Ident
ident_of t = record { place = t.place; name = t.text }

-- the tree of a number
abbrev pub number_from : ℕ → Literal → Number
number_from place n = record { place = place; size = n.size; signed = n.signed; value = n.value }

-- a tree at a place
abbrev pub at : ℕ → ExprKind → Expr
at place kind = roll-Expr (record { place = place; kind = kind })
