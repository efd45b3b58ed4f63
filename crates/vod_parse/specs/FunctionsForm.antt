-- How functions are read.
use Rattle.std.specs.Prelude.{ℕ, Bool, List, Option}
use Rattle.vod_tree.specs.declared.declaration.Range.{Range}
use Rattle.vod_tree.specs.declared.ident.Ident.{Ident}
use Rattle.vod_tree.specs.declared.«module».Function.{Function}
use Rattle.vod_tree.specs.declared.«module».FunctionDeclaration.{FunctionDeclaration}
use Rattle.vod_tree.specs.declared.«module».FunctionInput.{FunctionInput}
use Rattle.vod_grammar.specs.Form.{Form, word_form, name_form, then, mapped, flag}
use Rattle.vod_grammar.specs.declared.word.Word.TheVariants as word
use Rattle.vod_statement.specs.StatementForm.{statement_form}
use Rattle.vod_statement.specs.declared.context.Context.TheVariants as context
use Rattle.vod_declaration.specs.FunctionsForm.{function_inputs, function_declarations}
use Rattle.vod_declaration.specs.RangesForm.{typed}
use Rattle.vod_parse.specs.Functions.{function}

-- behind the statement: `endfunction`
abbrev pub function_end : Function → Form Function
function_end x = mapped (λ _. x) (word_form word.Endfunction)

-- behind the declarations: the statement and `endfunction`
abbrev pub function_statement : ℕ → ℕ → Bool → Bool → Option Range → Ident → Option (List FunctionInput) → List FunctionDeclaration → Form Function
function_statement size at a s r n i d = then (statement_form context.Function size 64) (λ body. function_end (function at a s r n i d body))

-- behind the inputs: `;`, declarations, the statement and `endfunction`
abbrev pub function_body : ℕ → ℕ → Bool → Bool → Option Range → Ident → Option (List FunctionInput) → Form Function
function_body size at a s r n i = then (word_form word.Semicolon) (λ _. then function_declarations (λ d. function_statement size at a s r n i d))

-- behind how the result is declared: a name, inputs and what stands behind them
abbrev pub function_named : ℕ → ℕ → Bool → Bool → Option Range → Form Function
function_named size at a s r = then name_form (λ n. then function_inputs (λ i. function_body size at a s r n i))

-- behind `function` at this place
abbrev pub function_form : ℕ → ℕ → Form Function
function_form size at =
    then (flag word.Automatic) (λ a. typed (λ s r. function_named size at a s r))
