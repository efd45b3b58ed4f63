-- How parameters are read.
use Rattle.std.specs.Prelude.{ℕ, true, false, List, Option, None, Some}
use Rattle.vod_tree.specs.declared.declaration.ParameterDeclaration.{ParameterDeclaration}
use Rattle.vod_tree.specs.declared.declaration.ParameterPort.{ParameterPort}
use Rattle.vod_tree.specs.declared.declaration.ParameterPort.TheVariants as port
use Rattle.vod_tree.specs.declared.declaration.ParameterType.{ParameterType}
use Rattle.vod_tree.specs.declared.declaration.Setting.{Setting}
use Rattle.vod_tree.specs.declared.declaration.TypedParameter.{TypedParameter}
use Rattle.vod_grammar.specs.Form.{Form, word_form, name_form, expression_form, give, then, mapped, either}
use Rattle.vod_grammar.specs.declared.word.Word.TheVariants as word
use Rattle.vod_declaration.specs.Parameters.{setting, parameter_type, typed_parameter_of, parameters_of}
use Rattle.vod_declaration.specs.PartsForm.{listed, enclosed}
use Rattle.vod_declaration.specs.RangesForm.{bounds}

abbrev pub setting_form : Form Setting
setting_form = then name_form (λ n. then (word_form word.Equals) (λ _. mapped (setting n) expression_form))

-- the type of a parameter, or nothing
abbrev pub type_form : Form (Option ParameterType)
type_form =
    either word.Signed
    (λ at. then (word_form word.OpenBracket) (λ opener. mapped (λ r. Some (parameter_type at true r)) (bounds opener)))
    (either word.OpenBracket (λ at. mapped (λ r. Some (parameter_type at false r)) (bounds at)) (give None))

-- behind `parameter`
abbrev pub typed_parameter : ℕ → Form TypedParameter
typed_parameter at = then type_form (λ k. mapped (typed_parameter_of at k) setting_form)

-- the first parameter of a header
abbrev pub first_parameter : Form ParameterPort
first_parameter = then (word_form word.Parameter) (λ at. mapped (λ p. port.Parameter p) (typed_parameter at))

-- a parameter of a header, behind others
abbrev pub parameter_port : Form ParameterPort
parameter_port = either word.Parameter (λ at. mapped (λ p. port.Parameter p) (typed_parameter at)) (mapped (λ s. port.Further s) setting_form)

-- behind `#`
abbrev pub parameter_ports : Form (List ParameterPort)
parameter_ports = then (word_form word.OpenParen) (λ _. enclosed first_parameter parameter_port)

-- behind `parameter` or `localparam` of an item
abbrev pub parameters : Form ParameterDeclaration
parameters = then type_form (λ k. listed (parameters_of k) setting_form)
