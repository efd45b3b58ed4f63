-- How the header and the declarations of a function are read.
use Rattle.std.specs.Prelude.{ℕ, Bool, ◌||◌, List, [], Option, None, Some}
use Rattle.vod_tree.specs.declared.«module».FunctionDeclaration.{FunctionDeclaration}
use Rattle.vod_tree.specs.declared.«module».FunctionDeclaration.TheVariants as declaration
use Rattle.vod_tree.specs.declared.«module».FunctionInput.{FunctionInput}
use Rattle.vod_tree.specs.declared.«module».FunctionInput.TheVariants as input
use Rattle.vod_tree.specs.declared.«module».FunctionPort.{FunctionPort}
use Rattle.vod_tree.specs.declared.«module».FunctionVariables.{FunctionVariables}
use Rattle.vod_expr.specs.Grammar.{Lexeme}
use Rattle.vod_grammar.specs.Form.{Form, word_form, name_form, give, then, mapped, either, repeated}
use Rattle.vod_grammar.specs.Words.{is_word}
use Rattle.vod_grammar.specs.declared.word.Word.TheVariants as word
use Rattle.vod_declaration.specs.Functions.{function_port_of, function_variables_of}
use Rattle.vod_declaration.specs.PartsForm.{listed, enclosed}
use Rattle.vod_declaration.specs.RangesForm.{typed}

-- behind `input` of a header
abbrev pub function_port : ℕ → Form FunctionPort
function_port at = typed (λ s r. mapped (function_port_of at s r) name_form)

abbrev pub first_input : Form FunctionInput
first_input = then (word_form word.Input) (λ at. mapped (λ p. input.Port p) (function_port at))

abbrev pub function_input : Form FunctionInput
function_input = either word.Input (λ at. mapped (λ p. input.Port p) (function_port at)) (mapped (λ n. input.Further n) name_form)

-- behind `(`
abbrev pub inputs : Form (List FunctionInput)
inputs = enclosed first_input function_input

-- the inputs of a header, or nothing
abbrev pub function_inputs : Form (Option (List FunctionInput))
function_inputs = either word.OpenParen (λ _. mapped (λ xs. Some xs) inputs) (give None)

-- behind `input` or `reg` in a function
abbrev pub function_variables : ℕ → Form FunctionVariables
function_variables at = typed (λ s r. listed (function_variables_of at s r) name_form)

abbrev pub function_declaration : Form FunctionDeclaration
function_declaration =
    either word.Input (λ at. mapped (λ d. declaration.Input d) (function_variables at))
    (then (word_form word.Reg) (λ at. mapped (λ d. declaration.Reg d) (function_variables at)))

-- the first token of a declaration in a function
abbrev pub starts_function_declaration : Lexeme → Bool
starts_function_declaration t = is_word word.Input t || is_word word.Reg t

abbrev pub function_declarations : Form (List FunctionDeclaration)
function_declarations = repeated starts_function_declaration function_declaration []
