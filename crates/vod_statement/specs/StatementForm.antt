-- How statements are read.
use Rattle.std.specs.Prelude.{◌≡◌, ℕ, zero, suc, Bool, true, false, ◌||◌, List, [], ◌∷◌, ◌++◌, Option, None, Some}
use Rattle.vod_tree.specs.declared.expr.Expr.{Expr}
use Rattle.vod_tree.specs.declared.statement.CaseItem.{CaseItem}
use Rattle.vod_tree.specs.declared.statement.CaseLabel.{CaseLabel}
use Rattle.vod_tree.specs.declared.statement.CaseLabel.TheVariants as label
use Rattle.vod_tree.specs.declared.statement.Lval.{Lval}
use Rattle.vod_tree.specs.declared.statement.Statement.{Statement}
use Rattle.vod_tree.specs.declared.statement.StatementKind.{StatementKind}
use Rattle.vod_tree.specs.declared.statement.StatementKind.TheVariants as kind
use Rattle.vod_expr.specs.Grammar.{Lexeme}
use Rattle.vod_grammar.specs.Form.{Form, Phrase, Sight, Before, word_form, expression_form, give, then, closed, mapped, placed, either, repeated, several, separated, flag, limit}
use Rattle.vod_grammar.specs.Read as reads
use Rattle.vod_grammar.specs.Read.{passes}
use Rattle.vod_grammar.specs.Words.{Is, is_word, is_other}
use Rattle.vod_grammar.specs.declared.word.Word.{Word}
use Rattle.vod_grammar.specs.declared.word.Word.TheVariants as word
use Rattle.vod_statement.specs.Label.{label_form}
use Rattle.vod_statement.specs.LeftSideForm.{lval_form, starts_lval}
use Rattle.vod_statement.specs.Statements.{IsStatement, statement, item, assigns, assignment}
use Rattle.vod_statement.specs.declared.context.Context.{Context}

-- a target and the word behind it
abbrev pub target_form : ℕ → Word → Form Lval
target_form size w = then (lval_form size) (λ target. mapped (λ _. target) (word_form w))

-- a value and `;`
abbrev pub value_form : Form Expr
value_form = then expression_form (λ value. mapped (λ _. value) (word_form word.Semicolon))

-- a target, `<=` or `=`, a value and `;`, part by part, and read in two steps
abbrev pub assigned_parts : Context → ℕ → Form StatementKind
assigned_parts c size =
    then (lval_form size) (λ target. then (word_form (assigns c)) (λ _. then expression_form (λ value.
    mapped (λ _. assignment c target value) (word_form word.Semicolon))))

abbrev pub assigned : Context → ℕ → Form StatementKind
assigned c size = record {
  read = reads.bind (target_form size (assigns c)).read (λ target. (mapped (λ value. assignment c target value) value_form).read);
  phrase = (assigned_parts c size).phrase;
  deep = (assigned_parts c size).deep;
}

-- `else` and a statement, behind one, or nothing
abbrev pub otherwise : Form Statement → Statement → Form (Statement × Option Statement)
otherwise f a = either word.Else (λ _. mapped (λ b. (a, Some b)) f) (give (a, None))

-- the branches of an `if`: what stands before an `else` is no `if` without one
pub data Branches (P : Phrase Statement) : Sight → List Lexeme → Statement × Option Statement → Option Lexeme → Type 0 where
  only : {m : Sight} {ts : List Lexeme} {a : Statement} {b : Option Lexeme} → (m ≡ Before → passes (is_word word.Else) b ≡ false) → P m ts a b → Branches P m ts (a, None) b
  both : {m : Sight} {us vs : List Lexeme} {t : Lexeme} {a d : Statement} {b : Option Lexeme} → P Before us a (Some t) → Is word.Else t → P m vs d b → Branches P m (us ++ t ∷ vs) (a, Some d) b

abbrev pub branches : Form Statement → Form (Statement × Option Statement)
branches f = closed f (otherwise f) (Branches f.phrase)

-- `( expr )`
abbrev pub test_form : Form Expr
test_form = then (word_form word.OpenParen) (λ _. then expression_form (λ test. mapped (λ _. test) (word_form word.CloseParen)))

-- `( expr )` and what stands behind it, part by part, and read in two steps
abbrev pub behind_test : {A : Type 0} → (Expr → Form A) → Form A
behind_test next = then (word_form word.OpenParen) (λ _. then expression_form (λ test. then (word_form word.CloseParen) (λ _. next test)))

abbrev pub tested : {A : Type 0} → (Expr → Form A) → Form A
tested next = record { read = reads.bind test_form.read (λ test. (next test).read); phrase = (behind_test next).phrase; deep = (behind_test next).deep }

abbrev pub chosen : Form Statement → Form StatementKind
chosen f = tested (λ test. mapped (λ bs. kind.If test bs.0 bs.1) (branches f))

-- behind `default`: `:` or none, and a statement
abbrev pub default_item : Form Statement → Form (CaseLabel × Statement)
default_item f = then (flag word.Colon) (λ _. mapped (λ body. (label.Default, body)) f)

-- expressions, `:` and a statement
abbrev pub valued_item : Form Statement → Form (CaseLabel × Statement)
valued_item f = then (separated expression_form) (λ xs. then (word_form word.Colon) (λ _. mapped (λ body. (label.Values xs, body)) f))

-- what an item of a `case` is taken at, and its statement
abbrev pub item_parts : Form Statement → Form (CaseLabel × Statement)
item_parts f = either word.Default (λ _. default_item f) (valued_item f)

unfoldable pub item_form : Form Statement → Form CaseItem
item_form f = placed (λ at part. item at part.0 part.1) (item_parts f)

abbrev pub case_items : Form Statement → Form (List CaseItem)
case_items f = several (is_other word.Endcase) (item_form f)

-- behind the value and the items
abbrev pub cases_end : Expr → List CaseItem → Form StatementKind
cases_end value xs = mapped (λ _. kind.Case value xs) (word_form word.Endcase)

abbrev pub cases : Form Statement → Form StatementKind
cases f = tested (λ value. then (case_items f) (cases_end value))

abbrev pub block : Form Statement → Form StatementKind
block f = then label_form (λ name. then (repeated (is_other word.End) f []) (λ body. mapped (λ _. kind.Block name body) (word_form word.End)))

-- a statement whose parts are of this form
abbrev pub empty_or_assigned : Context → ℕ → Form StatementKind
empty_or_assigned c size = either word.Semicolon (λ _. give kind.Empty) (assigned c size)

abbrev pub block_or_other : Context → ℕ → Form Statement → Form StatementKind
block_or_other c size f = either word.Begin (λ _. block f) (empty_or_assigned c size)

abbrev pub case_or_other : Context → ℕ → Form Statement → Form StatementKind
case_or_other c size f = either word.Case (λ _. cases f) (block_or_other c size f)

abbrev pub alternatives : Context → ℕ → Form Statement → Form StatementKind
alternatives c size f = either word.If (λ _. chosen f) (case_or_other c size f)

abbrev pub around : Context → ℕ → Form Statement → Form Statement
around c size f = placed statement (alternatives c size f)

-- the first token of a statement
abbrev pub starts_statement : Lexeme → Bool
starts_statement t = is_word word.If t || (is_word word.Case t || (is_word word.Begin t || (is_word word.Semicolon t || starts_lval t)))

-- a statement, before a token that isn't the `else` of an `if` that it ends in
pub record StatementPhrase (c : Context) (m : Sight) (ts : List Lexeme) (x : Statement) (b : Option Lexeme) : Type 0 where
  pub open_ended : Bool
  pub is : IsStatement c open_ended ts x
  pub closed : m ≡ Before → open_ended ≡ true → passes (is_word word.Else) b ≡ false

-- a statement in which no more than so many levels of statements stand
unfoldable pub statement_form : Context → ℕ → ℕ → Form Statement
statement_form c size zero = limit starts_statement (StatementPhrase c)
statement_form c size (suc n) = around c size (statement_form c size n)
