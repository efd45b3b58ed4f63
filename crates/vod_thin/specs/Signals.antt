-- The signals that a module declares, and the names that its items use.
use Rattle.std.specs.Prelude.{ℕ, ◌++◌, List, [], ◌∷◌, map, Bool, true, false, Option, None, Some, if◌then◌else◌}
use Rattle.std.specs.List.{flat_map, list_any}
use Rattle.std.specs.Str.{bytes_eq}
use Rattle.vod_thin_syntax.specs.declared.syntax.Direction.{Direction}
use Rattle.vod_thin_syntax.specs.declared.syntax.Direction.TheVariants as direction
use Rattle.vod_thin_syntax.specs.Syntax.{Name, Mark, Named, Fixed, Item, Wire, Register, Assign, Always, Port, Module}
use Rattle.vod_thin.specs.declared.names.Kind.{Kind}
use Rattle.vod_thin.specs.declared.names.Kind.TheVariants as kind

-- a signal as it is declared
pub record Declared : Type 0 where
  pub name : Name
  pub kind : Kind

abbrev pub port_kind : Direction → Kind
port_kind direction.Input = kind.Input
port_kind direction.Output = kind.Output

-- the signal that a port declares
abbrev pub declared_port : Port → Declared
declared_port port = record { name = port.name; kind = port_kind port.direction }

-- the signal that an item declares, if it does
abbrev pub declared_by : {V : Type 0} → Item V → List Declared
declared_by (Wire name) = record { name = name; kind = kind.Wire } ∷ []
declared_by (Register name initial) = record { name = name; kind = kind.Register initial } ∷ []
declared_by (Assign target value) = []
declared_by (Always clock register value) = []

-- the signals that ports and items declare, the ports' first
abbrev pub declared : {V : Type 0} → List Port → List (Item V) → List Declared
declared ports items = map declared_port ports ++ flat_map declared_by items

abbrev pub signals_of : {V : Type 0} → Module V → List Declared
signals_of m = declared m.ports m.items

-- their names and kinds
abbrev pub entries : List Declared → List (List ℕ × Kind)
entries signals = map (λ signal. (signal.name.bytes, signal.kind)) signals

-- what a name was first declared as
abbrev pub kind_of : List Declared → List ℕ → Option Kind
kind_of [] bytes = None
kind_of (signal ∷ signals) bytes = if bytes_eq bytes signal.name.bytes then Some signal.kind else kind_of signals bytes

-- whether a list of names has this one
abbrev pub has_name : List Name → List ℕ → Bool
has_name names bytes = list_any (λ other. bytes_eq bytes other.bytes) names

-- the texts of names, and whether a list of texts has this one
abbrev pub texts : List Name → List (List ℕ)
texts names = map (λ name. name.bytes) names

abbrev pub has_text : List (List ℕ) → List ℕ → Bool
has_text held text = list_any (λ other. bytes_eq text other) held

-- the target of an assign
abbrev pub assigned_by : {V : Type 0} → Item V → List Name
assigned_by (Wire name) = []
assigned_by (Register name initial) = []
assigned_by (Assign target value) = target ∷ []
assigned_by (Always clock register value) = []

-- the clock of an always
abbrev pub clock_by : {V : Type 0} → Item V → List Name
clock_by (Wire name) = []
clock_by (Register name initial) = []
clock_by (Assign target value) = []
clock_by (Always clock register value) = clock ∷ []

-- the left side of an always
abbrev pub updated_by : {V : Type 0} → Item V → List Name
updated_by (Wire name) = []
updated_by (Register name initial) = []
updated_by (Assign target value) = []
updated_by (Always clock register value) = register ∷ []

-- the names among the tokens of a right side
abbrev pub names_in : List Mark → List Name
names_in [] = []
names_in (Named name ∷ marks) = name ∷ names_in marks
names_in (Fixed word ∷ marks) = names_in marks

-- the names on the right side of an item
abbrev pub read_by : Item (List Mark) → List Name
read_by (Wire name) = []
read_by (Register name initial) = []
read_by (Assign target value) = names_in value
read_by (Always clock register value) = names_in value

-- all such names of some items
abbrev pub assigned : {V : Type 0} → List (Item V) → List Name
assigned items = flat_map assigned_by items

abbrev pub clocks : {V : Type 0} → List (Item V) → List Name
clocks items = flat_map clock_by items

abbrev pub updated : {V : Type 0} → List (Item V) → List Name
updated items = flat_map updated_by items

-- an input; a wire or an output; a register
abbrev pub is_input : Option Kind → Bool
is_input None = false
is_input (Some kind.Input) = true
is_input (Some kind.Output) = false
is_input (Some kind.Wire) = false
is_input (Some (kind.Register initial)) = false

abbrev pub is_net : Option Kind → Bool
is_net None = false
is_net (Some kind.Input) = false
is_net (Some kind.Output) = true
is_net (Some kind.Wire) = true
is_net (Some (kind.Register initial)) = false

abbrev pub is_register : Option Kind → Bool
is_register None = false
is_register (Some kind.Input) = false
is_register (Some kind.Output) = false
is_register (Some kind.Wire) = false
is_register (Some (kind.Register initial)) = true
