-- How ranges are read.
use Rattle.std.specs.Prelude.{ℕ, Bool, Option, None, Some}
use Rattle.vod_tree.specs.declared.declaration.Range.{Range}
use Rattle.vod_tree.specs.declared.expr.Expr.{Expr}
use Rattle.vod_grammar.specs.Form.{Form, word_form, expression_form, give, then, mapped, either, flag}
use Rattle.vod_grammar.specs.declared.word.Word.TheVariants as word
use Rattle.vod_declaration.specs.Ranges.{range}

-- behind the first bound: `: expr ]`, as the code reads it
abbrev pub upper : Form Expr
upper = then (word_form word.Colon) (λ _. then expression_form (λ b. mapped (λ _. b) (word_form word.CloseBracket)))

-- behind `[`: `expr : expr ]`
abbrev pub bounds : ℕ → Form Range
bounds at = then expression_form (λ a. then (word_form word.Colon) (λ _. then expression_form (λ b. mapped (λ _. range at a b) (word_form word.CloseBracket))))

-- a range or nothing
abbrev pub range_form : Form (Option Range)
range_form = either word.OpenBracket (λ at. mapped (λ r. Some r) (bounds at)) (give None)

-- `signed` or nothing, a range or nothing, and what stands behind them
abbrev pub typed : {A : Type 0} → (Bool → Option Range → Form A) → Form A
typed next = then (flag word.Signed) (λ s. then range_form (λ r. next s r))
