-- How ports are read.
use Rattle.std.specs.Prelude.{ℕ, Bool, true, false, List, [], ◌∷◌, None, Some}
use Rattle.vod_tree.specs.declared.declaration.DeclaredPort.{DeclaredPort}
use Rattle.vod_tree.specs.declared.declaration.DeclaredPort.TheVariants as port
use Rattle.vod_tree.specs.declared.declaration.NetPort.{NetPort}
use Rattle.vod_tree.specs.declared.declaration.Ports.{Ports}
use Rattle.vod_tree.specs.declared.declaration.Ports.TheVariants as list
use Rattle.vod_tree.specs.declared.declaration.RegPort.{RegPort}
use Rattle.vod_tree.specs.declared.declaration.Value.{Value}
use Rattle.vod_tree.specs.declared.ident.Ident.{Ident}
use Rattle.vod_grammar.specs.Form.{Form, word_form, name_form, expression_form, give, then, mapped, either, behind, separated, flag, repeated_by}
use Rattle.vod_grammar.specs.Words.{is_word}
use Rattle.vod_grammar.specs.declared.word.Word.TheVariants as word
use Rattle.vod_declaration.specs.Parameters.{setting}
use Rattle.vod_declaration.specs.Ports.{value, net_port_of, reg_port_of}
use Rattle.vod_declaration.specs.RangesForm.{typed}

-- behind a name: a value, or nothing
abbrev pub valued : Ident → Form Value
valued n = either word.Equals (λ _. mapped (λ a. value n (Some a)) expression_form) (give (value n None))

abbrev pub value_form : Form Value
value_form = then name_form valued

-- behind `input`, or behind `output` without `reg`
abbrev pub net_port : ℕ → Form NetPort
net_port at = then (flag word.Wire) (λ w. typed (λ s r. mapped (net_port_of at w s r) name_form))

-- behind `output reg`
abbrev pub reg_port : ℕ → Form RegPort
reg_port at = typed (λ s r. mapped (reg_port_of at s r) value_form)

abbrev pub input_port : ℕ → Form DeclaredPort
input_port at = mapped (λ p. port.Input p) (net_port at)

abbrev pub output_port : ℕ → Form DeclaredPort
output_port at = either word.Reg (λ _. mapped (λ p. port.OutputReg p) (reg_port at)) (mapped (λ p. port.Output p) (net_port at))

-- a name, which may have a value where the flag says so
abbrev pub further_port : Bool → Form DeclaredPort
further_port true = then name_form (λ n. either word.Equals (λ _. mapped (λ a. port.FurtherValue (setting n a)) expression_form) (give (port.Further n)))
further_port false = mapped (λ n. port.Further n) name_form

-- a port behind others
abbrev pub port_form : Bool → Form DeclaredPort
port_form reg = either word.Input input_port (either word.Output output_port (further_port reg))

-- whether the nearest port with a direction is `output reg`, behind one more port
abbrev pub is_reg : Bool → DeclaredPort → Bool
is_reg before (port.Input p) = false
is_reg before (port.Output p) = false
is_reg before (port.OutputReg p) = true
is_reg before (port.Further n) = before
is_reg before (port.FurtherValue s) = before

-- the same behind ports
abbrev pub ends_in_reg : Bool → List DeclaredPort → Bool
ends_in_reg before [] = before
ends_in_reg before (p ∷ ps) = ends_in_reg (is_reg before p) ps

-- ports behind others
abbrev pub more_ports : List DeclaredPort → Form (List DeclaredPort)
more_ports sofar = repeated_by (is_word word.Comma) (λ ps. behind word.Comma (port_form (ends_in_reg false ps))) sofar

-- ports behind a first one
abbrev pub declared_ports : Form DeclaredPort → Form Ports
declared_ports first = then first (λ p. mapped (λ ps. list.Declared ps) (more_ports (p ∷ [])))

-- behind `(`, unless `)` follows
abbrev pub some_ports : Form Ports
some_ports =
    either word.Input (λ at. declared_ports (input_port at)) (either word.Output (λ at. declared_ports (output_port at))
    (mapped (λ ns. list.Names ns) (separated name_form)))

-- behind the name and the parameters of a module
abbrev pub port_list : Form Ports
port_list =
    either word.OpenParen
    (λ _. either word.CloseParen (λ _. give list.Empty) (then some_ports (λ ps. mapped (λ _. ps) (word_form word.CloseParen))))
    (give list.Absent)
