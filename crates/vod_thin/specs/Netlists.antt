-- The design that a module is.
use Rattle.std.specs.Prelude.{ℕ, List, [], ◌∷◌, map, Bool, true, false, if◌then◌else◌, Some}
use Rattle.std.specs.List.{flat_map, enumerate_from, position_or_len}
use Rattle.std.specs.Str.{bytes_eq}
use Rattle.vod_thin_design.specs.declared.thin.Bit.{Bit}
use Rattle.vod_thin_design.specs.declared.thin.Bit.TheVariants as bit
use Rattle.vod_thin_design.specs.declared.thin.Signal as design_signal
use Rattle.vod_thin_design.specs.declared.thin.Class.{Class}
use Rattle.vod_thin_design.specs.declared.thin.Class.TheVariants as class
use Rattle.vod_thin_design.specs.declared.thin.Input as design_input
use Rattle.vod_thin_design.specs.declared.thin.Expr.{Expr}
use Rattle.vod_thin_design.specs.declared.thin.Expr.TheVariants as expr
use Rattle.vod_thin_design.specs.declared.thin.Driver.{Driver}
use Rattle.vod_thin_design.specs.declared.thin.Block.{Block}
use Rattle.vod_thin_design.specs.declared.thin.Initial.{Initial}
use Rattle.vod_thin_design.specs.Netlist.{Netlist}
use Rattle.vod_thin_syntax.specs.Syntax.{Name, Item, Wire, Register, Assign, Always, Module, Operator, And, Xor, Or, Value, Plain, Group, Joined}
use Rattle.vod_thin.specs.declared.names.Kind.{Kind}
use Rattle.vod_thin.specs.declared.names.Kind.TheVariants as kind
use Rattle.vod_thin.specs.Signals.{signals_of, entries, texts, has_text, clocks, is_register}

-- the number of a signal: how many stand before the first with its name
abbrev pub number_of : List (List ℕ × Kind) → List ℕ → ℕ
number_of signals name = position_or_len (λ e. bytes_eq name e.0) signals

-- `~` before an operand
abbrev pub inverted_if : Bool → Expr → Expr
inverted_if inverted e = if inverted then expr.Not e else e

-- two operands and their operator
abbrev pub joined : Operator → Expr → Expr → Expr
joined And a b = expr.And a b
joined Xor a b = expr.Xor a b
joined Or a b = expr.Or a b

-- the expression of a right side
abbrev pub expr_of : List (List ℕ × Kind) → Value → Expr
expr_of signals (Plain inverted name) = inverted_if inverted (expr.Signal (number_of signals name.bytes))
expr_of signals (Group inverted value) = inverted_if inverted (expr_of signals value)
expr_of signals (Joined op left right) = joined op (expr_of signals left) (expr_of signals right)

abbrev pub signal_of : List ℕ × Kind → design_signal.Signal
signal_of e = record { name = e.0; register = is_register (Some e.1) }

-- an input that some `always` waits for is a clock
abbrev pub class_of : Bool → Class
class_of waits = if waits then class.Clock else class.Data

abbrev pub input_of : List (List ℕ) → ℕ → List ℕ → Kind → List design_input.Input
input_of waited number name kind.Input = record { signal = number; class = class_of (has_text waited name) } ∷ []
input_of waited number name kind.Output = []
input_of waited number name kind.Wire = []
input_of waited number name (kind.Register initial) = []

abbrev pub bit_of : Bool → Bit
bit_of initial = if initial then bit.One else bit.Zero

abbrev pub initial_of : ℕ → Kind → List Initial
initial_of number kind.Input = []
initial_of number kind.Output = []
initial_of number kind.Wire = []
initial_of number (kind.Register initial) = record { register = number; value = bit_of initial } ∷ []

-- what each signal with its number brings
abbrev pub inputs_of : List (List ℕ) → List (List ℕ × Kind) → List design_input.Input
inputs_of waited signals = flat_map (λ e. input_of waited e.0 e.1.0 e.1.1) (enumerate_from 0 signals)

abbrev pub initials_of : List (List ℕ × Kind) → List Initial
initials_of signals = flat_map (λ e. initial_of e.0 e.1.1) (enumerate_from 0 signals)

-- what each item brings; `value` gives the expressions of right sides
abbrev pub driver_of : {V : Type 0} → List (List ℕ × Kind) → (V → Expr) → Item V → List Driver
driver_of signals value (Wire name) = []
driver_of signals value (Register name initial) = []
driver_of signals value (Assign target right) = record { target = number_of signals target.bytes; value = value right } ∷ []
driver_of signals value (Always clock register right) = []

abbrev pub block_of : {V : Type 0} → List (List ℕ × Kind) → (V → Expr) → Item V → List Block
block_of signals value (Wire name) = []
block_of signals value (Register name initial) = []
block_of signals value (Assign target right) = []
block_of signals value (Always clock register right) = record { clock = number_of signals clock.bytes; register = number_of signals register.bytes; value = value right } ∷ []

-- the design of a module with these signals, for clocks of these names
abbrev pub design_by : {V : Type 0} → List (List ℕ × Kind) → List (List ℕ) → (V → Expr) → Module V → Netlist
design_by signals waited value m = record {
  name = m.name.bytes;
  signals = map signal_of signals;
  inputs = inputs_of waited signals;
  drivers = flat_map (driver_of signals value) m.items;
  blocks = flat_map (block_of signals value) m.items;
  initials = initials_of signals;
}

-- the design of a module: its signals by declaration, inputs by the port list, drivers and blocks by source order,
-- registers' initial values by declaration
abbrev pub design_of : Module Value → Netlist
design_of m = design_by (entries (signals_of m)) (texts (clocks m.items)) (expr_of (entries (signals_of m))) m
