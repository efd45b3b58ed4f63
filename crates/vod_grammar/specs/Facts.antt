-- What is known of expressions and numbers, from the laws of the crates that read them.
use Rattle.std.specs.Prelude.{◌≡◌, ℕ, ◌<◌, ◌≤◌, List, ◌∷◌, ◌++◌, length, drop, All, Ok, MatchResult}
use Rattle.vod_token.specs.Literal.{StandsFor, literal_of}
use Rattle.vod_token.specs.declared.value.Literal.{Literal}
use Rattle.vod_tree.specs.declared.expr.Expr.{Expr}
use Rattle.vod_expr.specs.Answer.{fault_at, expr_read, expr_len, IsRead, IsRefused, EndsExpr}
use Rattle.vod_expr.specs.Grammar.{Lexeme, IsLexeme, IsExpr, IsLongest}

pub record Facts : Type 0 where
  -- an answer is right
  pub right : (ts : List Lexeme) → All IsLexeme ts → MatchResult (expr_read ts) (λ read. IsRead ts read.1 read.0) (λ fault. IsRefused ts fault)
  pub longest : (ts : List Lexeme) → All IsLexeme ts → IsLongest ts (expr_len ts)
  pub place : (ts : List Lexeme) → MatchResult (expr_read ts) (λ read. read.1 ≡ expr_len ts) (λ fault. fault ≡ fault_at (drop (expr_len ts) ts))
  pub within : (ts : List Lexeme) → expr_len ts ≤ length ts
  pub some : (ts : List Lexeme) (tree : Expr) (n : ℕ) → expr_read ts ≡ Ok (tree, n) → 0 < n
  -- the answer on an expression, at the end and before a token with which none goes on
  pub last : (ts : List Lexeme) (tree : Expr) → IsExpr 0 ts tree → expr_read ts ≡ Ok (tree, length ts)
  pub before : (ts us : List Lexeme) (t : Lexeme) (tree : Expr) → IsExpr 0 ts tree → EndsExpr t → expr_read (ts ++ t ∷ us) ≡ Ok (tree, length ts)
  -- it hangs on no token past the first behind it
  pub ahead : (front rest other : List Lexeme) (t : Lexeme) → expr_len (front ++ t ∷ rest) ≡ length front → expr_read (front ++ t ∷ other) ≡ expr_read (front ++ t ∷ rest)
  -- a text stands for one number at most
  pub literal : (text : List ℕ) (n : Literal) → StandsFor text n → literal_of text ≡ n
