-- How declarations are read.
use Rattle.std.specs.Prelude.{Bool, ◌||◌}
use Rattle.vod_tree.specs.declared.declaration.NetDeclaration.{NetDeclaration}
use Rattle.vod_tree.specs.declared.declaration.RegDeclaration.{RegDeclaration}
use Rattle.vod_tree.specs.declared.declaration.Register.{Register}
use Rattle.vod_tree.specs.declared.declaration.Register.TheVariants as register
use Rattle.vod_tree.specs.declared.declaration.VariableDeclaration.{VariableDeclaration}
use Rattle.vod_tree.specs.declared.«module».ItemKind.{ItemKind}
use Rattle.vod_tree.specs.declared.«module».ItemKind.TheVariants as kind
use Rattle.vod_expr.specs.Grammar.{Lexeme}
use Rattle.vod_grammar.specs.Form.{Form, name_form, then, mapped, either, behind, flag}
use Rattle.vod_grammar.specs.Words.{is_word}
use Rattle.vod_grammar.specs.declared.word.Word.TheVariants as word
use Rattle.vod_declaration.specs.Items.{nets_of, variables_of, registers_of}
use Rattle.vod_declaration.specs.ParametersForm.{parameters}
use Rattle.vod_declaration.specs.PartsForm.{listed}
use Rattle.vod_declaration.specs.PortsForm.{valued, value_form}
use Rattle.vod_declaration.specs.RangesForm.{bounds, typed}

abbrev pub nets : Form NetDeclaration
nets = then (flag word.Wire) (λ w. typed (λ s r. listed (nets_of w s r) name_form))

abbrev pub variables : Form VariableDeclaration
variables = typed (λ s r. listed (variables_of s r) value_form)

-- a register or a memory
abbrev pub register_form : Form Register
register_form = then name_form (λ n. either word.OpenBracket (λ at. mapped (λ r. register.Ram n r) (bounds at)) (mapped (λ x. register.Value x) (valued n)))

abbrev pub registers : Form RegDeclaration
registers = typed (λ s r. listed (registers_of s r) register_form)

-- the declarations behind their first words
abbrev pub input_item : Form ItemKind
input_item = mapped (λ d. kind.Input d) nets

abbrev pub output_item : Form ItemKind
output_item = either word.Reg (λ _. mapped (λ d. kind.OutputReg d) variables) (mapped (λ d. kind.Output d) nets)

abbrev pub wire_item : Form ItemKind
wire_item = mapped (λ d. kind.Wire d) variables

abbrev pub reg_item : Form ItemKind
reg_item = mapped (λ d. kind.Reg d) registers

abbrev pub integer_item : Form ItemKind
integer_item = listed (λ ns. kind.Integer ns) name_form

abbrev pub parameter_item : Form ItemKind
parameter_item = mapped (λ d. kind.Parameter d) parameters

abbrev pub localparam_item : Form ItemKind
localparam_item = mapped (λ d. kind.Localparam d) parameters

-- a declaration, with its first word
abbrev pub declaration_form : Form ItemKind
declaration_form =
    either word.Input (λ _. input_item) (either word.Output (λ _. output_item) (either word.Wire (λ _. wire_item) (either word.Reg (λ _. reg_item)
    (either word.Integer (λ _. integer_item) (either word.Parameter (λ _. parameter_item) (behind word.Localparam localparam_item))))))

-- the first token of a declaration
abbrev pub starts_declaration : Lexeme → Bool
starts_declaration t =
    is_word word.Input t || (is_word word.Output t || (is_word word.Wire t || (is_word word.Reg t || (is_word word.Integer t || (is_word word.Parameter t || is_word word.Localparam t)))))
