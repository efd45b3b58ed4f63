-- Ranges: which tokens are which tree (IEEE 1364-2005, A.2.5).
use Rattle.std.specs.Prelude.{ℕ, List, [], ◌∷◌, ◌++◌}
use Rattle.vod_tree.specs.declared.declaration.Range.{Range}
use Rattle.vod_tree.specs.declared.expr.Expr.{Expr}
use Rattle.vod_expr.specs.Grammar.{Lexeme, IsExpr}
use Rattle.vod_grammar.specs.Words.{Is}
use Rattle.vod_grammar.specs.declared.word.Word.TheVariants as word

-- a range at a place
abbrev pub range : ℕ → Expr → Expr → Range
range at a b = record { place = at; first = a; second = b }

-- "[" expr ":" expr "]"
pub data IsRange : List Lexeme → Range → Type 0 where
  bounds : {opener colon closer : Lexeme} {ts us : List Lexeme} {a b : Expr}
      → Is word.OpenBracket opener → IsExpr 0 ts a → Is word.Colon colon → IsExpr 0 us b → Is word.CloseBracket closer
      → IsRange (opener ∷ (ts ++ colon ∷ (us ++ closer ∷ []))) (range opener.place a b)
