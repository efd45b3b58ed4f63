-- The statements of an `initial` (IEEE 1364-2005, A.6.2, A.6.3, A.6.8): which tokens are which tree.
use Rattle.std.specs.Prelude.{ℕ, Bool, true, false, List, [], ◌∷◌, ◌++◌, Option}
use Rattle.vod_tree.specs.declared.expr.Expr.{Expr}
use Rattle.vod_tree.specs.declared.ident.Ident.{Ident}
use Rattle.vod_tree.specs.declared.ident.Number.{Number}
use Rattle.vod_tree.specs.declared.statement.ForLoop.{ForLoop, roll-ForLoop}
use Rattle.vod_tree.specs.declared.statement.InitialKind.{InitialKind}
use Rattle.vod_tree.specs.declared.statement.InitialKind.TheVariants as kind
use Rattle.vod_tree.specs.declared.statement.InitialStatement.{InitialStatement, roll-InitialStatement}
use Rattle.vod_expr.specs.Grammar.{Lexeme, IsName, IsNumber, IsExpr, ident_of}
use Rattle.vod_grammar.specs.Words.{Is}
use Rattle.vod_grammar.specs.declared.word.Word.TheVariants as word
use Rattle.vod_statement.specs.Label.{IsLabel}

-- a statement at a place
abbrev pub initial : ℕ → InitialKind → InitialStatement
initial at k = roll-InitialStatement (record { place = at; kind = k })

-- a `for` of its start, its test, its step and its body
abbrev pub for_loop : Ident × Expr → Ident × Bool × Expr → Ident × Ident × Number → InitialStatement → ForLoop
for_loop first test last inner = roll-ForLoop (record {
  index = first.0;
  start = first.1;
  tested = test.0;
  inclusive = test.1;
  bound = test.2;
  stepped = last.0;
  from = last.1;
  step = last.2;
  body = inner;
})

-- `= expr ;`
pub data IsValue : List Lexeme → Expr → Type 0 where
  a_value : {equals semicolon : Lexeme} {ts : List Lexeme} {a : Expr}
      → Is word.Equals equals → IsExpr 0 ts a → Is word.Semicolon semicolon → IsValue (equals ∷ (ts ++ semicolon ∷ [])) a

-- `NAME = expr ;`
pub data IsStart : List Lexeme → Ident × Expr → Type 0 where
  a_start : {t : Lexeme} {ts : List Lexeme} {a : Expr} → IsName t → IsValue ts a → IsStart (t ∷ ts) (ident_of t, a)

-- `<` or `<=`, as whether it is the second
pub data IsComparison : Lexeme → Bool → Type 0 where
  less : {t : Lexeme} → Is word.Less t → IsComparison t false
  less_equal : {t : Lexeme} → Is word.LessEqual t → IsComparison t true

-- `NAME < expr ;` or `NAME <= expr ;`
pub data IsTest : List Lexeme → Ident × Bool × Expr → Type 0 where
  a_test : {t comparison semicolon : Lexeme} {ts : List Lexeme} {inclusive : Bool} {a : Expr}
      → IsName t → IsComparison comparison inclusive → IsExpr 0 ts a → Is word.Semicolon semicolon
      → IsTest (t ∷ comparison ∷ (ts ++ semicolon ∷ [])) (ident_of t, inclusive, a)

-- `NAME = NAME + NUMBER`
pub data IsStep : List Lexeme → Ident × Ident × Number → Type 0 where
  a_step : {t equals from plus number : Lexeme} {n : Number}
      → IsName t → Is word.Equals equals → IsName from → Is word.Plus plus → IsNumber number n
      → IsStep (t ∷ equals ∷ from ∷ plus ∷ number ∷ []) (ident_of t, ident_of from, n)

-- the tokens are a statement of an `initial` with this tree
mutual
  pub data IsInitial : List Lexeme → InitialStatement → Type 0 where
    assigned : {t : Lexeme} {ts : List Lexeme} {a : Expr} → IsName t → IsValue ts a → IsInitial (t ∷ ts) (initial t.place (kind.Assign (ident_of t) a))
    indexed : {t opener closer : Lexeme} {ts us : List Lexeme} {index a : Expr}
        → IsName t → Is word.OpenBracket opener → IsExpr 0 ts index → Is word.CloseBracket closer → IsValue us a
        → IsInitial (t ∷ opener ∷ (ts ++ closer ∷ us)) (initial t.place (kind.AssignIndex (ident_of t) index a))
    loop : {t opener closer : Lexeme} {ts us vs ws : List Lexeme} {start : Ident × Expr} {test : Ident × Bool × Expr} {step : Ident × Ident × Number} {body : InitialStatement}
        → Is word.For t → Is word.OpenParen opener → IsStart ts start → IsTest us test → IsStep vs step → Is word.CloseParen closer → IsInitial ws body
        → IsInitial (t ∷ opener ∷ (ts ++ (us ++ (vs ++ closer ∷ ws)))) (initial t.place (kind.For (for_loop start test step body)))
    block : {t last : Lexeme} {ts us : List Lexeme} {name : Option Ident} {body : List InitialStatement}
        → Is word.Begin t → IsLabel ts name → AreInitials us body → Is word.End last
        → IsInitial (t ∷ (ts ++ (us ++ last ∷ []))) (initial t.place (kind.Block name body))

  -- statements, or none
  pub data AreInitials : List Lexeme → List InitialStatement → Type 0 where
    no_initial : AreInitials [] []
    one_initial : {ts us : List Lexeme} {a : InitialStatement} {xs : List InitialStatement} → IsInitial ts a → AreInitials us xs → AreInitials (ts ++ us) (a ∷ xs)
