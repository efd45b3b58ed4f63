-- Where names are misused in the items and headers of modules (IEEE 1364-2005, clauses 4, 6, 7, 9, 10 and 12).
use Rattle.std.specs.Prelude.{ℕ, List, [], ◌++◌, flat_map, Option, None, Some}
use Rattle.vod_tree.specs.declared.declaration.Range.{Range}
use Rattle.vod_tree.specs.declared.declaration.Setting.{Setting}
use Rattle.vod_tree.specs.declared.declaration.Value.{Value}
use Rattle.vod_tree.specs.declared.declaration.ParameterType.{ParameterType}
use Rattle.vod_tree.specs.declared.declaration.ParameterPort.{ParameterPort}
use Rattle.vod_tree.specs.declared.declaration.ParameterPort.TheVariants as parameter
use Rattle.vod_tree.specs.declared.declaration.DeclaredPort.{DeclaredPort}
use Rattle.vod_tree.specs.declared.declaration.DeclaredPort.TheVariants as port
use Rattle.vod_tree.specs.declared.declaration.Ports.{Ports}
use Rattle.vod_tree.specs.declared.declaration.Ports.TheVariants as ports_are
use Rattle.vod_tree.specs.declared.declaration.Register.{Register}
use Rattle.vod_tree.specs.declared.declaration.Register.TheVariants as register
use Rattle.vod_tree.specs.declared.expr.Expr.{Expr}
use Rattle.vod_tree.specs.declared.instance.Arguments.{Arguments}
use Rattle.vod_tree.specs.declared.instance.Arguments.TheVariants as arguments_are
use Rattle.vod_tree.specs.declared.instance.Connections.{Connections}
use Rattle.vod_tree.specs.declared.instance.Connections.TheVariants as connections_are
use Rattle.vod_tree.specs.declared.instance.NamedArgument.{NamedArgument}
use Rattle.vod_tree.specs.declared.instance.NamedConnection.{NamedConnection}
use Rattle.vod_tree.specs.declared.instance.GateTerminals.{GateTerminals}
use Rattle.vod_tree.specs.declared.instance.Instance.{Instance}
use Rattle.vod_tree.specs.declared.module.Function.{Function}
use Rattle.vod_tree.specs.declared.module.FunctionInput.{FunctionInput}
use Rattle.vod_tree.specs.declared.module.FunctionInput.TheVariants as input
use Rattle.vod_tree.specs.declared.module.FunctionDeclaration.{FunctionDeclaration}
use Rattle.vod_tree.specs.declared.module.FunctionDeclaration.TheVariants as inside
use Rattle.vod_tree.specs.declared.module.Item.{Item}
use Rattle.vod_tree.specs.declared.module.ItemKind.{ItemKind}
use Rattle.vod_tree.specs.declared.module.ItemKind.TheVariants as item
use Rattle.vod_tree.specs.declared.module.Module.{Module}
use Rattle.vod_tree.specs.declared.module.SourceItem.{SourceItem}
use Rattle.vod_tree.specs.declared.module.SourceItem.TheVariants as part
use Rattle.vod_tree.specs.declared.module.Tree.{Tree}
use Rattle.vod_tree.specs.declared.statement.Always.{Always}
use Rattle.vod_tree.specs.declared.statement.Assignment.{Assignment}
use Rattle.vod_tree.specs.declared.statement.Event.{Event}
use Rattle.vod_tree.specs.declared.statement.SecondEvent.{SecondEvent}
use Rattle.vod_names.specs.Lists.{function_declarations}
use Rattle.vod_uses.specs.declared.scope.Usage.TheVariants as use_is
use Rattle.vod_uses.specs.Visible.{Visible, before, within, visible}
use Rattle.vod_uses.specs.Uses.{misused, misuses, left_misuses}
use Rattle.vod_uses.specs.Statements.{statement_misuses, initial_misuses}

abbrev pub bound_misuses : Visible → Range → List ℕ
bound_misuses v r = misuses v r.first ++ misuses v r.second

-- a range of a declaration, if it has one
abbrev pub range_misuses : Visible → Option Range → List ℕ
range_misuses v None = []
range_misuses v (Some r) = bound_misuses v r

-- a value of a net or a register, in which its own name is declared
abbrev pub given_misuses : Visible → Option Expr → List ℕ
given_misuses v None = []
given_misuses v (Some e) = misuses (before v e.place) e

abbrev pub value_misuses : Visible → Value → List ℕ
value_misuses v x = given_misuses v x.value

-- a parameter's value, in which its own name isn't declared yet (4.10)
abbrev pub setting_misuses : Visible → Setting → List ℕ
setting_misuses v s = misuses (before v s.name.place) s.value

abbrev pub type_misuses : Visible → Option ParameterType → List ℕ
type_misuses v None = []
type_misuses v (Some t) = bound_misuses v t.range

abbrev pub register_misuses : Visible → Register → List ℕ
register_misuses v (register.Value x) = value_misuses v x
register_misuses v (register.Ram i bounds) = bound_misuses v bounds

abbrev pub assignment_misuses : Visible → Assignment → List ℕ
assignment_misuses v a = left_misuses v a.target ++ misuses v a.value

abbrev pub gate_misuses : Visible → GateTerminals → List ℕ
gate_misuses v g = flat_map (misuses v) g.terminals

-- what instances are given: the names in it, not those of the other module's ports and parameters
abbrev pub named_argument_misuses : Visible → NamedArgument → List ℕ
named_argument_misuses v a = misuses v a.value

abbrev pub argument_misuses : Visible → Option Arguments → List ℕ
argument_misuses v None = []
argument_misuses v (Some (arguments_are.Ordered es)) = flat_map (misuses v) es
argument_misuses v (Some (arguments_are.Named named)) = flat_map (named_argument_misuses v) named

abbrev pub connected_misuses : Visible → Option Expr → List ℕ
connected_misuses v None = []
connected_misuses v (Some e) = misuses v e

abbrev pub named_connection_misuses : Visible → NamedConnection → List ℕ
named_connection_misuses v c = connected_misuses v c.value

abbrev pub connection_misuses : Visible → Connections → List ℕ
connection_misuses v connections_are.Empty = []
connection_misuses v (connections_are.Ordered es) = flat_map (misuses v) es
connection_misuses v (connections_are.Named cs) = flat_map (named_connection_misuses v) cs

abbrev pub instance_misuses : Visible → Instance → List ℕ
instance_misuses v i = connection_misuses v i.connections

-- the inputs and what else a function declares: their ranges are read in the module
abbrev pub input_misuses : Visible → FunctionInput → List ℕ
input_misuses v (input.Port p) = range_misuses v p.range
input_misuses v (input.Further i) = []

abbrev pub inputs_misuses : Visible → Option (List FunctionInput) → List ℕ
inputs_misuses v None = []
inputs_misuses v (Some ps) = flat_map (input_misuses v) ps

abbrev pub inner_misuses : Visible → FunctionDeclaration → List ℕ
inner_misuses v (inside.Input d) = range_misuses v d.range
inner_misuses v (inside.Reg d) = range_misuses v d.range

-- a function: in its statement its own names stand before those of the module (10.4, 12.7)
abbrev pub function_misuses : Visible → Function → List ℕ
function_misuses v f =
    range_misuses v f.range ++ (inputs_misuses v f.inputs ++ (flat_map (inner_misuses v) f.declarations ++ statement_misuses (within v (function_declarations f)) f.body))

-- an event is of a signal (9.7.2)
abbrev pub event_misuses : Visible → Event → List ℕ
event_misuses v e = misused v use_is.Event e.name

abbrev pub second_misuses : Visible → Option SecondEvent → List ℕ
second_misuses v None = []
second_misuses v (Some e) = event_misuses v e.event

abbrev pub always_misuses : Visible → Always → List ℕ
always_misuses v a = event_misuses v a.event ++ (second_misuses v a.second ++ statement_misuses v a.body)

-- what is misused in each kind of item
abbrev pub kind_item_misuses : Visible → ItemKind → List ℕ
kind_item_misuses v (item.Input d) = range_misuses v d.range
kind_item_misuses v (item.Output d) = range_misuses v d.range
kind_item_misuses v (item.OutputReg d) = range_misuses v d.range ++ flat_map (value_misuses v) d.values
kind_item_misuses v (item.Wire d) = range_misuses v d.range ++ flat_map (value_misuses v) d.values
kind_item_misuses v (item.Reg d) = range_misuses v d.range ++ flat_map (register_misuses v) d.registers
kind_item_misuses v (item.Integer is) = []
kind_item_misuses v (item.Parameter d) = type_misuses v d.kind ++ flat_map (setting_misuses v) d.settings
kind_item_misuses v (item.Localparam d) = type_misuses v d.kind ++ flat_map (setting_misuses v) d.settings
kind_item_misuses v (item.Assign assignments) = flat_map (assignment_misuses v) assignments
kind_item_misuses v (item.Gate g) = flat_map (gate_misuses v) g.gates
kind_item_misuses v (item.Instances is) = argument_misuses v is.arguments ++ flat_map (instance_misuses v) is.instances
kind_item_misuses v (item.Function f) = function_misuses v f
kind_item_misuses v (item.Initial s) = initial_misuses v s
kind_item_misuses v (item.Always a) = always_misuses v a

-- an item uses what is declared before it
abbrev pub item_misuses : Visible → Item → List ℕ
item_misuses v i = kind_item_misuses (before v i.place) i.kind

-- the parameters of a header (12.2)
abbrev pub parameter_misuses : Visible → ParameterPort → List ℕ
parameter_misuses v (parameter.Parameter p) = type_misuses (before v p.place) p.kind ++ setting_misuses v p.setting
parameter_misuses v (parameter.Further s) = setting_misuses v s

abbrev pub parameters_misuses : Visible → Option (List ParameterPort) → List ℕ
parameters_misuses v None = []
parameters_misuses v (Some ps) = flat_map (parameter_misuses v) ps

-- the ports of a header (12.3.4)
abbrev pub port_misuses : Visible → DeclaredPort → List ℕ
port_misuses v (port.Input p) = range_misuses (before v p.place) p.range
port_misuses v (port.Output p) = range_misuses (before v p.place) p.range
port_misuses v (port.OutputReg p) = range_misuses (before v p.place) p.range ++ value_misuses v p.value
port_misuses v (port.Further i) = []
port_misuses v (port.FurtherValue s) = misuses (before v s.value.place) s.value

abbrev pub ports_misuses : Visible → Ports → List ℕ
ports_misuses v ports_are.Absent = []
ports_misuses v ports_are.Empty = []
ports_misuses v (ports_are.Names is) = []
ports_misuses v (ports_are.Declared ps) = flat_map (port_misuses v) ps

-- where names are misused in a module, and in a source
abbrev pub module_misuses : Module → List ℕ
module_misuses m = parameters_misuses (visible m 0) m.parameters ++ (ports_misuses (visible m 0) m.ports ++ flat_map (item_misuses (visible m 0)) m.items)

abbrev pub source_misuses : SourceItem → List ℕ
source_misuses (part.Directive d) = []
source_misuses (part.Module m) = module_misuses m

abbrev pub use_faults : Tree → List ℕ
use_faults t = flat_map source_misuses t.items
