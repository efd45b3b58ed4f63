-- What modules and functions declare, in the order of the source.
use Rattle.std.specs.Prelude.{Bool, false, not, List, [], ◌∷◌, ◌++◌, map, flat_map, Option, None, Some, is_some}
use Rattle.vod_tree.specs.declared.declaration.Range.{Range}
use Rattle.vod_tree.specs.declared.declaration.Setting.{Setting}
use Rattle.vod_tree.specs.declared.declaration.Value.{Value}
use Rattle.vod_tree.specs.declared.declaration.ParameterPort.{ParameterPort}
use Rattle.vod_tree.specs.declared.declaration.ParameterPort.TheVariants as header
use Rattle.vod_tree.specs.declared.declaration.DeclaredPort.{DeclaredPort}
use Rattle.vod_tree.specs.declared.declaration.DeclaredPort.TheVariants as port
use Rattle.vod_tree.specs.declared.declaration.Ports.{Ports}
use Rattle.vod_tree.specs.declared.declaration.Ports.TheVariants as ports_are
use Rattle.vod_tree.specs.declared.declaration.Register.{Register}
use Rattle.vod_tree.specs.declared.declaration.Register.TheVariants as register
use Rattle.vod_tree.specs.declared.ident.Ident.{Ident}
use Rattle.vod_tree.specs.declared.instance.GateTerminals.{GateTerminals}
use Rattle.vod_tree.specs.declared.instance.Instance.{Instance}
use Rattle.vod_tree.specs.declared.module.Function.{Function}
use Rattle.vod_tree.specs.declared.module.FunctionInput.{FunctionInput}
use Rattle.vod_tree.specs.declared.module.FunctionInput.TheVariants as input
use Rattle.vod_tree.specs.declared.module.FunctionDeclaration.{FunctionDeclaration}
use Rattle.vod_tree.specs.declared.module.FunctionDeclaration.TheVariants as inside
use Rattle.vod_tree.specs.declared.module.Item.{Item}
use Rattle.vod_tree.specs.declared.module.ItemKind.{ItemKind}
use Rattle.vod_tree.specs.declared.module.ItemKind.TheVariants as item
use Rattle.vod_tree.specs.declared.module.Module.{Module}
use Rattle.vod_names.specs.declared.entry.Kind.{Kind}
use Rattle.vod_names.specs.declared.entry.Kind.TheVariants as kind
use Rattle.vod_names.specs.declared.entry.Declaration.{Declaration}
use Rattle.vod_names.specs.Entries.{Named, plain, named}

-- a declaration of a kind with a sign and a range or none
abbrev pub shaped : Kind → Bool → Option Range → Declaration
shaped k signed range = record { place = 0; kind = k; signed = signed; ranged = is_some range; partial = false }

-- a direction in the body: without `wire` a second declaration may complete it (12.3.3)
abbrev pub direction : Kind → Bool → Bool → Option Range → Declaration
direction k wire signed range = record { place = 0; kind = k; signed = signed; ranged = is_some range; partial = not wire }

-- each of these declared alike
abbrev pub each_named : Declaration → List Ident → List Named
each_named d is = map (named d) is

abbrev pub setting_name : Setting → Ident
setting_name s = s.name

abbrev pub value_name : Value → Ident
value_name v = v.name

abbrev pub each_setting : Declaration → List Setting → List Named
each_setting d ss = each_named d (map setting_name ss)

abbrev pub each_value : Declaration → List Value → List Named
each_value d vs = each_named d (map value_name vs)

-- the parameters of a header (12.2)
abbrev pub parameter_ident : ParameterPort → Ident
parameter_ident (header.Parameter p) = p.setting.name
parameter_ident (header.Further s) = s.name

abbrev pub header_parameters : Option (List ParameterPort) → List Named
header_parameters None = []
header_parameters (Some ps) = each_named (plain kind.Parameter) (map parameter_ident ps)

-- a declared port of a header: a further name has the kind, sign and range of the one before it (12.3.4)
abbrev pub port_declaration : Declaration → DeclaredPort → Declaration
port_declaration before (port.Input p) = shaped kind.Input p.signed p.range
port_declaration before (port.Output p) = shaped kind.Output p.signed p.range
port_declaration before (port.OutputReg p) = shaped kind.OutputReg p.signed p.range
port_declaration before (port.Further i) = before
port_declaration before (port.FurtherValue s) = before

abbrev pub port_ident : DeclaredPort → Ident
port_ident (port.Input p) = p.name
port_ident (port.Output p) = p.name
port_ident (port.OutputReg p) = p.value.name
port_ident (port.Further i) = i
port_ident (port.FurtherValue s) = s.name

abbrev pub declared_ports : Declaration → List DeclaredPort → List Named
declared_ports before [] = []
declared_ports before (p ∷ ps) = named (port_declaration before p) (port_ident p) ∷ declared_ports (port_declaration before p) ps

-- what a header declares, and the names of one that lists names alone (12.3.2)
abbrev pub header_declarations : Ports → List Named
header_declarations ports_are.Absent = []
header_declarations ports_are.Empty = []
header_declarations (ports_are.Names is) = []
header_declarations (ports_are.Declared ps) = declared_ports (plain kind.Input) ps

abbrev pub header_names : Ports → List Named
header_names ports_are.Absent = []
header_names ports_are.Empty = []
header_names (ports_are.Names is) = each_named (plain kind.Listed) is
header_names (ports_are.Declared ps) = []

-- a register or a memory (4.9)
abbrev pub register_kind : Register → Kind
register_kind (register.Value v) = kind.Reg
register_kind (register.Ram i bounds) = kind.Ram

abbrev pub register_ident : Register → Ident
register_ident (register.Value v) = v.name
register_ident (register.Ram i bounds) = i

abbrev pub register_declaration : Bool → Option Range → Register → Named
register_declaration signed range r = named (shaped (register_kind r) signed range) (register_ident r)

-- a gate that has a name (7.1.4)
abbrev pub gate_name : Option Ident → List Named
gate_name None = []
gate_name (Some i) = named (plain kind.Gate) i ∷ []

abbrev pub gate_declarations : GateTerminals → List Named
gate_declarations g = gate_name g.name

abbrev pub instance_declaration : Instance → Named
instance_declaration i = named (plain kind.Instance) i.name

-- what an item declares
abbrev pub kind_declarations : ItemKind → List Named
kind_declarations (item.Input d) = each_named (direction kind.Input d.wire d.signed d.range) d.names
kind_declarations (item.Output d) = each_named (direction kind.Output d.wire d.signed d.range) d.names
kind_declarations (item.OutputReg d) = each_value (shaped kind.OutputReg d.signed d.range) d.values
kind_declarations (item.Wire d) = each_value (shaped kind.Wire d.signed d.range) d.values
kind_declarations (item.Reg d) = map (register_declaration d.signed d.range) d.registers
kind_declarations (item.Integer is) = each_named (plain kind.Integer) is
kind_declarations (item.Parameter d) = each_setting (plain kind.Parameter) d.settings
kind_declarations (item.Localparam d) = each_setting (plain kind.Localparam) d.settings
kind_declarations (item.Assign d) = []
kind_declarations (item.Gate d) = flat_map gate_declarations d.gates
kind_declarations (item.Instances d) = map instance_declaration d.instances
kind_declarations (item.Function f) = named (shaped kind.Function f.signed f.range) f.name ∷ []
kind_declarations (item.Initial s) = []
kind_declarations (item.Always a) = []

abbrev pub item_declarations : Item → List Named
item_declarations i = kind_declarations i.kind

abbrev pub kind_parameters : ItemKind → List Named
kind_parameters (item.Parameter d) = each_setting (plain kind.Parameter) d.settings
kind_parameters k = []

abbrev pub item_parameters : Item → List Named
item_parameters i = kind_parameters i.kind

-- the directions among the items: ports that the body declares (12.3.3)
abbrev pub kind_directions : ItemKind → List Named
kind_directions (item.Input d) = each_named (direction kind.Input d.wire d.signed d.range) d.names
kind_directions (item.Output d) = each_named (direction kind.Output d.wire d.signed d.range) d.names
kind_directions (item.OutputReg d) = each_value (shaped kind.OutputReg d.signed d.range) d.values
kind_directions k = []

abbrev pub item_directions : Item → List Named
item_directions i = kind_directions i.kind

abbrev pub directions : Module → List Named
directions m = flat_map item_directions m.items

-- all that a module declares: its parameters, its ports, its items
abbrev pub declarations : Module → List Named
declarations m = header_parameters m.parameters ++ (header_declarations m.ports ++ flat_map item_declarations m.items)

-- the names of a header that lists names alone
abbrev pub listed_names : Module → List Named
listed_names m = header_names m.ports

-- the ports of a module in the order of its header
abbrev pub ports : Module → List Named
ports m = header_names m.ports ++ header_declarations m.ports

-- the parameters that an instance may set, in order: of the header and then of the body (12.2.2)
abbrev pub parameters : Module → List Named
parameters m = header_parameters m.parameters ++ flat_map item_parameters m.items

-- an input in the header of a function: a further name has the sign and range of the one before it (10.4.1)
abbrev pub input_declaration : Declaration → FunctionInput → Declaration
input_declaration before (input.Port p) = shaped kind.Input p.signed p.range
input_declaration before (input.Further i) = before

abbrev pub input_ident : FunctionInput → Ident
input_ident (input.Port p) = p.name
input_ident (input.Further i) = i

abbrev pub function_inputs : Declaration → List FunctionInput → List Named
function_inputs before [] = []
function_inputs before (p ∷ ps) = named (input_declaration before p) (input_ident p) ∷ function_inputs (input_declaration before p) ps

abbrev pub header_inputs : Option (List FunctionInput) → List Named
header_inputs None = []
header_inputs (Some ps) = function_inputs (plain kind.Input) ps

abbrev pub inner_declarations : FunctionDeclaration → List Named
inner_declarations (inside.Input d) = each_named (shaped kind.Input d.signed d.range) d.names
inner_declarations (inside.Reg d) = each_named (shaped kind.Reg d.signed d.range) d.names

-- all that a function declares: its own name, the inputs of its header, what stands behind it
abbrev pub function_declarations : Function → List Named
function_declarations f = named (shaped kind.Function f.signed f.range) f.name ∷ (header_inputs f.inputs ++ flat_map inner_declarations f.declarations)
