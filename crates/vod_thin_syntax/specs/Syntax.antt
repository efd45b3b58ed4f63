-- The sentences of the thin form, by its alternatives.
use Rattle.std.specs.Prelude.{◌≡◌, ℕ, ◌≤◌, Bool, true, ◌&&◌, nat_le, nat_lt, List, [], ◌∷◌, ◌++◌, length, map, All, IsTrue, if◌then◌else◌}
use Rattle.std.specs.List.{flat_map}
use Rattle.vod_thin_syntax.specs.declared.words.Word.{Word}
use Rattle.vod_thin_syntax.specs.declared.words.Word.TheVariants as word
use Rattle.vod_thin_syntax.specs.declared.syntax.Direction.{Direction}
use Rattle.vod_thin_syntax.specs.declared.syntax.Direction.TheVariants as direction

-- a name where it stands in a source: its place and its bytes
pub record Name : Type 0 where
  pub place : ℕ
  pub bytes : List ℕ

-- a token of a sentence: a name, or a word or symbol wherever it stands
pub data Mark : Type 0 where
  Named : Name → Mark
  Fixed : Word → Mark

-- an operator of two operands
pub data Operator : Type 0 where
  And : Operator
  Xor : Operator
  Or : Operator

-- a right side: `NAME` or `~NAME`; `( VALUE )` or `~( VALUE )`; or two values and the operator between them
pub data Value : Type 0 where
  Plain : Bool → Name → Value
  Group : Bool → Value → Value
  Joined : Operator → Value → Value → Value

-- an item: `wire NAME;`, `reg NAME = 0;` or `1;`, `assign NAME = V;`, and `always @(posedge CLOCK) REGISTER <= V;`
pub data Item (V : Type 0) : Type 0 where
  Wire : Name → Item V
  Register : Name → Bool → Item V
  Assign : Name → V → Item V
  Always : Name → Name → V → Item V

-- `input NAME` or `output NAME`
pub record Port : Type 0 where
  pub direction : Direction
  pub name : Name

-- a module; the right sides of its items are values, or else the tokens of values
pub record Module (V : Type 0) : Type 0 where
  pub name : Name
  pub ports : List Port
  pub items : List (Item V)

abbrev pub operator_word : Operator → Word
operator_word And = word.And
operator_word Xor = word.Xor
operator_word Or = word.Or

abbrev pub tilde : Bool → List Mark
tilde inverted = if inverted then Fixed word.Not ∷ [] else []

-- the tokens of a value
abbrev pub value_marks : Value → List Mark
value_marks (Plain inverted name) = tilde inverted ++ Named name ∷ []
value_marks (Group inverted value) = tilde inverted ++ Fixed word.Open ∷ (value_marks value ++ Fixed word.Close ∷ [])
value_marks (Joined op left right) = value_marks left ++ Fixed (operator_word op) ∷ value_marks right

abbrev pub digit_word : Bool → Word
digit_word initial = if initial then word.One else word.Zero

-- the tokens of an item
abbrev pub item_marks : {V : Type 0} → (V → List Mark) → Item V → List Mark
item_marks marks (Wire name) = Fixed word.Wire ∷ Named name ∷ Fixed word.Semicolon ∷ []
item_marks marks (Register name initial) = Fixed word.Reg ∷ Named name ∷ Fixed word.Equals ∷ Fixed (digit_word initial) ∷ Fixed word.Semicolon ∷ []
item_marks marks (Assign target value) = Fixed word.Assign ∷ Named target ∷ Fixed word.Equals ∷ (marks value ++ Fixed word.Semicolon ∷ [])
item_marks marks (Always clock register value) =
    Fixed word.Always ∷ Fixed word.Event ∷ Fixed word.Open ∷ Fixed word.Posedge ∷ Named clock ∷ Fixed word.Close
    ∷ Named register ∷ Fixed word.Nonblocking ∷ (marks value ++ Fixed word.Semicolon ∷ [])

abbrev pub direction_word : Direction → Word
direction_word direction.Input = word.Input
direction_word direction.Output = word.Output

abbrev pub port_marks : Port → List Mark
port_marks port = Fixed (direction_word port.direction) ∷ Named port.name ∷ []

-- ports with a comma between each two
abbrev pub ports_marks : List Port → List Mark
ports_marks [] = []
ports_marks (port ∷ ports) = port_marks port ++ flat_map (λ next. Fixed word.Comma ∷ port_marks next) ports

-- the tokens of a module
abbrev pub sentence : {V : Type 0} → (V → List Mark) → Module V → List Mark
sentence marks m =
    Fixed word.Module ∷ Named m.name ∷ Fixed word.Open ∷ (ports_marks m.ports
    ++ Fixed word.Close ∷ Fixed word.Semicolon ∷ (flat_map (item_marks marks) m.items ++ Fixed word.Endmodule ∷ []))

-- how strongly operators bind (IEEE 1364-2005, 5.1.2), and values: an operand binds most
abbrev pub strength : Operator → ℕ
strength And = 2
strength Xor = 1
strength Or = 0

abbrev pub level : Value → ℕ
level (Plain inverted name) = 3
level (Group inverted value) = 3
level (Joined op left right) = strength op

-- a left part binds at least as strongly as the operator behind it, and a right part more strongly than the one before it
abbrev pub is_grouped : Value → Bool
is_grouped (Plain inverted name) = true
is_grouped (Group inverted value) = is_grouped value
is_grouped (Joined op left right) = nat_le (strength op) (level left) && nat_lt (strength op) (level right) && is_grouped left && is_grouped right

abbrev pub has_grouped : Item Value → Bool
has_grouped (Wire name) = true
has_grouped (Register name initial) = true
has_grouped (Assign target value) = is_grouped value
has_grouped (Always clock register value) = is_grouped value

-- a module of the form: it has a port, and its values are grouped as operators bind
pub record IsModule (m : Module Value) : Type 0 where
  pub ports : 1 ≤ length m.ports
  pub grouped : All (λ item. IsTrue (has_grouped item)) m.items

-- the tokens are a module
pub record IsSentence (marks : List Mark) (m : Module Value) : Type 0 where
  pub «module» : IsModule m
  pub is : marks ≡ sentence value_marks m

-- some sentence begins with these tokens
abbrev pub Begins : List Mark → Type 0
Begins marks = (rest : List Mark) × (m : Module Value) × IsSentence (marks ++ rest) m

-- the same item and module with the tokens of their values in place of these
abbrev pub item_printed : Item Value → Item (List Mark)
item_printed (Wire name) = Wire name
item_printed (Register name initial) = Register name initial
item_printed (Assign target value) = Assign target (value_marks value)
item_printed (Always clock register value) = Always clock register (value_marks value)

abbrev pub printed : Module Value → Module (List Mark)
printed m = record { name = m.name; ports = m.ports; items = map item_printed m.items }
