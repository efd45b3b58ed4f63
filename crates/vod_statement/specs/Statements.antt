-- The statements of an `always` and of a function (IEEE 1364-2005, A.6.4): which tokens are which tree.
use Rattle.std.specs.Prelude.{ℕ, Bool, true, false, List, [], ◌∷◌, ◌++◌, Option, None, Some}
use Rattle.vod_tree.specs.declared.expr.Expr.{Expr}
use Rattle.vod_tree.specs.declared.ident.Ident.{Ident}
use Rattle.vod_tree.specs.declared.statement.CaseItem.{CaseItem, roll-CaseItem}
use Rattle.vod_tree.specs.declared.statement.CaseLabel.{CaseLabel}
use Rattle.vod_tree.specs.declared.statement.CaseLabel.TheVariants as label
use Rattle.vod_tree.specs.declared.statement.Lval.{Lval}
use Rattle.vod_tree.specs.declared.statement.Statement.{Statement, roll-Statement}
use Rattle.vod_tree.specs.declared.statement.StatementKind.{StatementKind}
use Rattle.vod_tree.specs.declared.statement.StatementKind.TheVariants as kind
use Rattle.vod_expr.specs.Grammar.{Lexeme, IsExpr, AreExprs}
use Rattle.vod_grammar.specs.Words.{Is}
use Rattle.vod_grammar.specs.declared.word.Word.{Word}
use Rattle.vod_grammar.specs.declared.word.Word.TheVariants as word
use Rattle.vod_statement.specs.Label.{IsLabel}
use Rattle.vod_statement.specs.LeftSide.{IsLval}
use Rattle.vod_statement.specs.declared.context.Context.{Context}
use Rattle.vod_statement.specs.declared.context.Context.TheVariants as context

-- a statement at a place
abbrev pub statement : ℕ → StatementKind → Statement
statement at k = roll-Statement (record { place = at; kind = k })

-- an item of a `case` at a place
abbrev pub item : ℕ → CaseLabel → Statement → CaseItem
item at l body = roll-CaseItem (record { place = at; label = l; body = body })

-- `<=` in an `always`, `=` in a function
abbrev pub assigns : Context → Word
assigns context.Always = word.LessEqual
assigns context.Function = word.Equals

abbrev pub assignment : Context → Lval → Expr → StatementKind
assignment context.Always target value = kind.Nonblocking target value
assignment context.Function target value = kind.Blocking target value

-- `:` or nothing
pub data IsColon : List Lexeme → Type 0 where
  no_colon : IsColon []
  a_colon : {colon : Lexeme} → Is word.Colon colon → IsColon (colon ∷ [])

-- The tokens are a statement with this tree. The flag says whether its last part is an `if` without `else`: such a statement
-- doesn't stand between `if` and `else`, since an `else` belongs to the nearest `if` (9.4).
mutual
  pub data IsStatement (c : Context) : Bool → List Lexeme → Statement → Type 0 where
    assigned : {t equals semicolon : Lexeme} {ts us : List Lexeme} {target : Lval} {value : Expr}
        → IsLval (t ∷ ts) target → Is (assigns c) equals → IsExpr 0 us value → Is word.Semicolon semicolon
        → IsStatement c false (t ∷ (ts ++ equals ∷ (us ++ semicolon ∷ []))) (statement t.place (assignment c target value))
    alone : {t opener closer : Lexeme} {ts us : List Lexeme} {test : Expr} {body : Statement} {open_ended : Bool}
        → Is word.If t → Is word.OpenParen opener → IsExpr 0 ts test → Is word.CloseParen closer → IsStatement c open_ended us body
        → IsStatement c true (t ∷ opener ∷ (ts ++ closer ∷ us)) (statement t.place (kind.If test body None))
    branches : {t opener closer other : Lexeme} {ts us vs : List Lexeme} {test : Expr} {a b : Statement} {open_ended : Bool}
        → Is word.If t → Is word.OpenParen opener → IsExpr 0 ts test → Is word.CloseParen closer
        → IsStatement c false us a → Is word.Else other → IsStatement c open_ended vs b
        → IsStatement c open_ended (t ∷ opener ∷ (ts ++ closer ∷ (us ++ other ∷ vs))) (statement t.place (kind.If test a (Some b)))
    cases : {t opener closer last : Lexeme} {ts us vs : List Lexeme} {value : Expr} {x : CaseItem} {xs : List CaseItem}
        → Is word.Case t → Is word.OpenParen opener → IsExpr 0 ts value → Is word.CloseParen closer → IsItem c us x → AreItems c vs xs → Is word.Endcase last
        → IsStatement c false (t ∷ opener ∷ (ts ++ closer ∷ ((us ++ vs) ++ last ∷ []))) (statement t.place (kind.Case value (x ∷ xs)))
    block : {t last : Lexeme} {ts us : List Lexeme} {name : Option Ident} {body : List Statement}
        → Is word.Begin t → IsLabel ts name → AreStatements c us body → Is word.End last
        → IsStatement c false (t ∷ (ts ++ (us ++ last ∷ []))) (statement t.place (kind.Block name body))
    empty : {t : Lexeme} → Is word.Semicolon t → IsStatement c false (t ∷ []) (statement t.place kind.Empty)

  -- statements, or none
  pub data AreStatements (c : Context) : List Lexeme → List Statement → Type 0 where
    no_statement : AreStatements c [] []
    one_statement : {ts us : List Lexeme} {a : Statement} {xs : List Statement} {open_ended : Bool}
        → IsStatement c open_ended ts a → AreStatements c us xs → AreStatements c (ts ++ us) (a ∷ xs)

  -- an item of a `case`, at the place of its first token
  pub data IsItem (c : Context) : List Lexeme → CaseItem → Type 0 where
    values : {t colon : Lexeme} {ts us : List Lexeme} {xs : List Expr} {body : Statement} {open_ended : Bool}
        → AreExprs (t ∷ ts) xs → Is word.Colon colon → IsStatement c open_ended us body
        → IsItem c (t ∷ (ts ++ colon ∷ us)) (item t.place (label.Values xs) body)
    default : {t : Lexeme} {ts us : List Lexeme} {body : Statement} {open_ended : Bool}
        → Is word.Default t → IsColon ts → IsStatement c open_ended us body
        → IsItem c (t ∷ (ts ++ us)) (item t.place label.Default body)

  -- items, or none
  pub data AreItems (c : Context) : List Lexeme → List CaseItem → Type 0 where
    no_item : AreItems c [] []
    one_item : {ts us : List Lexeme} {a : CaseItem} {xs : List CaseItem} → IsItem c ts a → AreItems c us xs → AreItems c (ts ++ us) (a ∷ xs)
