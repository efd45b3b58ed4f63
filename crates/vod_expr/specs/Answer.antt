-- What is answered on a run of tokens: the expression that its longest front is, or where that front ends.
use Rattle.std.specs.Prelude.{◌≡◌, ℕ, suc, List, [], ◌∷◌, take, drop, Option, None, Some, option_map, option_and_then, unwrap_or, Result, Ok, Err, codes}
use Rattle.vod_token.specs.declared.TokenKind.TheVariants as kinds
use Rattle.vod_tree.specs.declared.expr.Expr.{Expr}
use Rattle.vod_tree.specs.declared.expr.UnaryOp.{UnaryOp}
use Rattle.vod_tree.specs.declared.expr.BinaryOp.{BinaryOp}
use Rattle.vod_expr.specs.Operators.{unary_text, binary_text}
use Rattle.vod_expr.specs.Grammar.{Lexeme, IsSymbol, IsName, IsExpr, IsLongest}
use Rattle.vod_expr_machine.specs.Machine.{Machine, step, run, start, ended}
use Rattle.vod_expr_machine.specs.Numerals.{number_of}
use Rattle.vod_expr.specs.declared.ParseFault.{ParseFault}
use Rattle.vod_expr.specs.declared.ParseFault.TheVariants.{At, End}

-- the fault at the first of these tokens, or at the end
abbrev pub fault_at : List Lexeme → ParseFault
fault_at [] = End
fault_at (t ∷ ts) = At t.place

-- the longest front with which some expression begins is an expression with this tree
pub record IsRead (run : List Lexeme) (taken : ℕ) (tree : Expr) : Type 0 where
  pub longest : IsLongest run taken
  pub expr : IsExpr 0 (take taken run) tree

-- it is no expression, and the fault is at the token behind it
pub record IsRefused (run : List Lexeme) (refusal : ParseFault) : Type 0 where
  pub taken : ℕ
  pub longest : IsLongest run taken
  pub none : (tree : Expr) → IsExpr 0 (take taken run) tree → ⊥
  pub fault : refusal ≡ fault_at (drop taken run)

-- no expression goes on with this token behind a whole one: it is no operator between operands, and none of `?`, `[` and `(`
pub record EndsExpr (t : Lexeme) : Type 0 where
  pub operator : (op : BinaryOp) → IsSymbol t (binary_text op) → ⊥
  pub question : IsSymbol t (codes "?") → ⊥
  pub bracket : IsSymbol t (codes "[") → ⊥
  pub paren : IsSymbol t (codes "(") → ⊥

-- no expression begins with this token: it is no name, no number, no operator before a primary, and neither `(` nor `{`
pub record BeginsNone (t : Lexeme) : Type 0 where
  pub name : IsName t → ⊥
  pub number : t.kind ≡ kinds.Number → ⊥
  pub operator : (op : UnaryOp) → IsSymbol t (unary_text op) → ⊥
  pub paren : IsSymbol t (codes "(") → ⊥
  pub brace : IsSymbol t (codes "{") → ⊥

-- The same as functions. How many tokens are read from a state on, up to the first with which none goes on.
abbrev pub len_from : Machine → List Lexeme → ℕ
len_from s [] = 0
len_from s (t ∷ ts) = unwrap_or (option_map (λ next. suc (len_from next ts)) (step number_of s t)) 0

-- how many tokens the longest front has with which some expression begins
unfoldable pub expr_len : List Lexeme → ℕ
expr_len ts = len_from start ts

-- the tree of these tokens, where they are an expression
unfoldable pub expr_of : List Lexeme → Option Expr
expr_of ts = option_and_then (λ s. ended s.head s.frames) (run number_of start ts)

-- a tree with the number of its tokens, or the fault at the first of the rest
abbrev pub tree_or_fault : Option Expr → ℕ → List Lexeme → Result (Expr × ℕ) ParseFault
tree_or_fault None n rest = Err (fault_at rest)
tree_or_fault (Some tree) n rest = Ok (tree, n)

-- what is answered: the tree of the longest front and the number of its tokens, or the fault at the token behind it
unfoldable pub expr_read : List Lexeme → Result (Expr × ℕ) ParseFault
expr_read ts = let n = expr_len ts in tree_or_fault (expr_of (take n ts)) n (drop n ts)
