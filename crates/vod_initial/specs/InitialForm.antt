-- How the statements of an `initial` are read.
use Rattle.std.specs.Prelude.{ℕ, zero, suc, Bool, true, false, ◌||◌, []}
use Rattle.vod_token.specs.declared.TokenKind.TheVariants as kinds
use Rattle.vod_tree.specs.declared.expr.Expr.{Expr}
use Rattle.vod_tree.specs.declared.ident.Ident.{Ident}
use Rattle.vod_tree.specs.declared.ident.Number.{Number}
use Rattle.vod_tree.specs.declared.statement.InitialKind.{InitialKind}
use Rattle.vod_tree.specs.declared.statement.InitialKind.TheVariants as kind
use Rattle.vod_tree.specs.declared.statement.InitialStatement.{InitialStatement}
use Rattle.vod_expr.specs.Grammar.{Lexeme}
use Rattle.vod_grammar.specs.Form.{Form, word_form, name_form, number_form, expression_form, give, then, mapped, placed, either, repeated, limit}
use Rattle.vod_grammar.specs.Read as reads
use Rattle.vod_grammar.specs.Words.{is_word, is_other, same_kind}
use Rattle.vod_grammar.specs.declared.word.Word.TheVariants as word
use Rattle.vod_statement.specs.Label.{label_form}
use Rattle.vod_initial.specs.Initial.{IsInitial, initial, for_loop}

-- `= expr ;`
abbrev pub value_form : Form Expr
value_form = then (word_form word.Equals) (λ _. then expression_form (λ a. mapped (λ _. a) (word_form word.Semicolon)))

-- behind a name and an index: `]` and a value
abbrev pub indexed : Ident → Expr → Form InitialKind
indexed name index = then (word_form word.CloseBracket) (λ _. mapped (λ a. kind.AssignIndex name index a) value_form)

-- behind a name: a value, or an index and a value
abbrev pub target : Ident → Form InitialKind
target name =
    either word.OpenBracket (λ _. then expression_form (indexed name))
    (mapped (λ a. kind.Assign name a) value_form)

abbrev pub assigned : Form InitialKind
assigned = then name_form target

-- `NAME = expr ;`
abbrev pub start_form : Form (Ident × Expr)
start_form = then name_form (λ index. mapped (λ a. (index, a)) value_form)

-- `<=` or `<`, as whether it is the first
abbrev pub comparison_form : Form Bool
comparison_form = either word.LessEqual (λ _. give true) (mapped (λ _. false) (word_form word.Less))

-- `NAME < expr ;` or `NAME <= expr ;`
abbrev pub test_form : Form (Ident × Bool × Expr)
test_form =
    then name_form (λ tested. then comparison_form (λ inclusive. then expression_form (λ bound. mapped (λ _. (tested, inclusive, bound)) (word_form word.Semicolon))))

-- `NAME = NAME + NUMBER`
abbrev pub step_form : Form (Ident × Ident × Number)
step_form =
    then name_form (λ stepped. then (word_form word.Equals) (λ _. then name_form (λ from. then (word_form word.Plus) (λ _. mapped (λ n. (stepped, from, n)) number_form))))

-- behind `)`: the body, of this form
abbrev pub body_form : Ident × Expr → Ident × Bool × Expr → Ident × Ident × Number → Form InitialStatement → Form InitialKind
body_form start test step f = then (word_form word.CloseParen) (λ _. mapped (λ body. kind.For (for_loop start test step body)) f)

-- behind `for`: `(`, its start and its test
abbrev pub bounds_form : Form ((Ident × Expr) × (Ident × Bool × Expr))
bounds_form = then (word_form word.OpenParen) (λ _. then start_form (λ start. mapped (λ test. (start, test)) test_form))

-- its step and `)`
abbrev pub last_form : Form (Ident × Ident × Number)
last_form = then step_form (λ step. mapped (λ _. step) (word_form word.CloseParen))

-- its head: its start, its test and its step
abbrev pub head_form : Form ((Ident × Expr) × (Ident × Bool × Expr) × (Ident × Ident × Number))
head_form = then bounds_form (λ bounds. mapped (λ step. (bounds.0, bounds.1, step)) last_form)

-- behind `for`: its head, and a body of this form, part by part, and read in two steps
abbrev pub for_parts : Form InitialStatement → Form InitialKind
for_parts f = then (word_form word.OpenParen) (λ _. then start_form (λ start. then test_form (λ test. then step_form (λ step. body_form start test step f))))

abbrev pub for_form : Form InitialStatement → Form InitialKind
for_form f = record {
  read = reads.bind head_form.read (λ head. (mapped (λ body. kind.For (for_loop head.0 head.1 head.2 body)) f).read);
  phrase = (for_parts f).phrase;
  deep = (for_parts f).deep;
}

-- behind `begin`: statements of this form, and `end`
abbrev pub block_form : Form InitialStatement → Form InitialKind
block_form f = then label_form (λ name. then (repeated (is_other word.End) f []) (λ body. mapped (λ _. kind.Block name body) (word_form word.End)))

abbrev pub block_or_assigned : Form InitialStatement → Form InitialKind
block_or_assigned f = either word.Begin (λ _. block_form f) assigned

-- a statement whose parts are of this form
abbrev pub alternatives : Form InitialStatement → Form InitialKind
alternatives f = either word.For (λ _. for_form f) (block_or_assigned f)

abbrev pub around : Form InitialStatement → Form InitialStatement
around f = placed initial (alternatives f)

-- the first token of a statement
abbrev pub starts_initial : Lexeme → Bool
starts_initial t = is_word word.For t || (is_word word.Begin t || same_kind t.kind kinds.Name)

-- a statement in which no more than so many levels of statements stand
unfoldable pub initial_form : ℕ → Form InitialStatement
initial_form zero = limit starts_initial (λ m ts x b. IsInitial ts x)
initial_form (suc n) = around (initial_form n)
