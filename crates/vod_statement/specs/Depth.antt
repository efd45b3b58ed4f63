-- Where a statement begins that stands so many levels below another.
use Rattle.std.specs.Prelude.{ℕ, zero, suc, false, List, [], ◌∷◌, ◌++◌, Option}
use Rattle.vod_tree.specs.declared.expr.Expr.{Expr}
use Rattle.vod_tree.specs.declared.ident.Ident.{Ident}
use Rattle.vod_tree.specs.declared.statement.CaseItem.{CaseItem}
use Rattle.vod_tree.specs.declared.statement.Statement.{Statement}
use Rattle.vod_expr.specs.Grammar.{Lexeme, IsExpr, AreExprs}
use Rattle.vod_grammar.specs.Words.{Is}
use Rattle.vod_grammar.specs.declared.word.Word.TheVariants as word
use Rattle.vod_statement.specs.Label.{IsLabel}
use Rattle.vod_statement.specs.Statements.{IsStatement, AreStatements, AreItems, IsColon}
use Rattle.vod_statement.specs.declared.context.Context.{Context}

-- what stands before the statement of an item of a `case`
pub data IsItemLabel : List Lexeme → Type 0 where
  by_values : {colon : Lexeme} {ts : List Lexeme} {xs : List Expr} → AreExprs ts xs → Is word.Colon colon → IsItemLabel (ts ++ colon ∷ [])
  by_default : {t : Lexeme} {ts : List Lexeme} → Is word.Default t → IsColon ts → IsItemLabel (t ∷ ts)

-- Behind these tokens of a statement one begins that stands so many levels below it: one constructor for each place in a
-- statement where another stands.
pub data Below (c : Context) : ℕ → List Lexeme → Type 0 where
  here : Below c zero []
  in_branch : {n : ℕ} {t opener closer : Lexeme} {ts front : List Lexeme} {test : Expr}
      → Is word.If t → Is word.OpenParen opener → IsExpr 0 ts test → Is word.CloseParen closer → Below c n front
      → Below c (suc n) (t ∷ opener ∷ (ts ++ closer ∷ front))
  in_other : {n : ℕ} {t opener closer other : Lexeme} {ts us front : List Lexeme} {test : Expr} {a : Statement}
      → Is word.If t → Is word.OpenParen opener → IsExpr 0 ts test → Is word.CloseParen closer
      → IsStatement c false us a → Is word.Else other → Below c n front
      → Below c (suc n) (t ∷ opener ∷ (ts ++ closer ∷ (us ++ other ∷ front)))
  in_block : {n : ℕ} {t : Lexeme} {ts us front : List Lexeme} {name : Option Ident} {before : List Statement}
      → Is word.Begin t → IsLabel ts name → AreStatements c us before → Below c n front
      → Below c (suc n) (t ∷ (ts ++ (us ++ front)))
  in_case : {n : ℕ} {t opener closer : Lexeme} {ts us vs front : List Lexeme} {value : Expr} {before : List CaseItem}
      → Is word.Case t → Is word.OpenParen opener → IsExpr 0 ts value → Is word.CloseParen closer
      → AreItems c us before → IsItemLabel vs → Below c n front
      → Below c (suc n) (t ∷ opener ∷ (ts ++ closer ∷ (us ++ (vs ++ front))))
