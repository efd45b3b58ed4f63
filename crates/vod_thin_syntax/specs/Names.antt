-- The names of a module, and what they are.
use Rattle.std.specs.Prelude.{◌≡◌, ◌≤◌, Bool, true, false, List, [], ◌∷◌, ◌++◌, length, map, filter}
use Rattle.std.specs.List.{flat_map}
use Rattle.vod_token.specs.Form.{IsWord}
use Rattle.vod_token.specs.Word.{is_reserved}
use Rattle.vod_thin_syntax.specs.declared.syntax.Direction.{Direction}
use Rattle.vod_thin_syntax.specs.declared.syntax.Direction.TheVariants as direction
use Rattle.vod_thin_syntax.specs.Syntax.{Name, Value, Plain, Group, Joined, Item, Wire, Register, Assign, Always, Port, Module}

-- the names of a value, from the left
abbrev pub value_names : Value → List Name
value_names (Plain inverted name) = name ∷ []
value_names (Group inverted value) = value_names value
value_names (Joined op left right) = value_names left ++ value_names right

abbrev pub item_names : Item Value → List Name
item_names (Wire name) = name ∷ []
item_names (Register name initial) = name ∷ []
item_names (Assign target value) = target ∷ value_names value
item_names (Always clock register value) = clock ∷ register ∷ value_names value

-- all names of a module, in order
abbrev pub names_of : Module Value → List Name
names_of m = m.name ∷ (map (λ port. port.name) m.ports ++ flat_map item_names m.items)

-- an identifier that isn't reserved (IEEE 1364-2005, 3.7)
pub record IsIdentifier (name : Name) : Type 0 where
  pub word : IsWord name.bytes
  pub free : is_reserved name.bytes ≡ false

-- it is within the limit on names
abbrev pub IsShort : Name → Type 0
IsShort name = length name.bytes ≤ 1024

-- the ports that are inputs
abbrev pub is_input : Direction → Bool
is_input direction.Input = true
is_input direction.Output = false

abbrev pub input_ports : List Port → List Port
input_ports ports = filter (λ port. is_input port.direction) ports
