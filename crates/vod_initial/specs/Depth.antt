-- Where a statement of an `initial` begins that stands so many levels below another.
use Rattle.std.specs.Prelude.{ℕ, zero, suc, Bool, List, [], ◌∷◌, ◌++◌, Option}
use Rattle.vod_tree.specs.declared.expr.Expr.{Expr}
use Rattle.vod_tree.specs.declared.ident.Ident.{Ident}
use Rattle.vod_tree.specs.declared.ident.Number.{Number}
use Rattle.vod_tree.specs.declared.statement.InitialStatement.{InitialStatement}
use Rattle.vod_expr.specs.Grammar.{Lexeme}
use Rattle.vod_grammar.specs.Words.{Is}
use Rattle.vod_grammar.specs.declared.word.Word.TheVariants as word
use Rattle.vod_statement.specs.Label.{IsLabel}
use Rattle.vod_initial.specs.Initial.{IsStart, IsTest, IsStep, AreInitials}

-- Behind these tokens of a statement one begins that stands so many levels below it: one constructor for each place in a
-- statement where another stands.
pub data Below : ℕ → List Lexeme → Type 0 where
  here : Below zero []
  in_loop : {n : ℕ} {t opener closer : Lexeme} {ts us vs front : List Lexeme} {start : Ident × Expr} {test : Ident × Bool × Expr} {step : Ident × Ident × Number}
      → Is word.For t → Is word.OpenParen opener → IsStart ts start → IsTest us test → IsStep vs step → Is word.CloseParen closer → Below n front
      → Below (suc n) (t ∷ opener ∷ (ts ++ (us ++ (vs ++ closer ∷ front))))
  in_block : {n : ℕ} {t : Lexeme} {ts us front : List Lexeme} {name : Option Ident} {before : List InitialStatement}
      → Is word.Begin t → IsLabel ts name → AreInitials us before → Below n front
      → Below (suc n) (t ∷ (ts ++ (us ++ front)))
