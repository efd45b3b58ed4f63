-- The parts of a flat design, each list by number, and what numbers of them stand for.
use Rattle.std.specs.Prelude.{◌≡◌, ◌≢◌, ℕ, ◌+◌, true, false, List, [], ◌∷◌, ◌++◌, length, map, flat_map, All, AllPairs, Option, None, Some, option_map, slice_get}
use Rattle.std.specs.List.{Contains}
use Rattle.vod_design.specs.declared.parts.Block.{Block}
use Rattle.vod_design.specs.declared.parts.Driver.{Driver}
use Rattle.vod_design.specs.declared.parts.Initial.{Initial}
use Rattle.vod_design.specs.declared.parts.InitialTarget.{InitialTarget}
use Rattle.vod_design.specs.declared.parts.Input.{Input}
use Rattle.vod_design.specs.declared.parts.Precision.{Precision}
use Rattle.vod_design.specs.declared.parts.Ram.{Ram}
use Rattle.vod_design.specs.declared.parts.Scope.{Scope}
use Rattle.vod_design.specs.declared.parts.Signal.{Signal}
use Rattle.vod_design.specs.declared.sized.Named.{Named}
use Rattle.vod_design.specs.declared.sized.Named.TheVariants as named
use Rattle.vod_design.specs.declared.sized.Variable.{Variable}
use Rattle.vod_design.specs.declared.sized.Variable.TheVariants as variable
use Rattle.vod_design.specs.declared.statement.Function.{Function}
use Rattle.vod_design.specs.declared.statement.Place.{Place}
use Rattle.vod_design.specs.declared.vector.Class.{Class}
use Rattle.vod_design.specs.Lawful.{Port}

-- a flat design: its instances, what they declare, and what drives a simulation of it
pub record Netlist : Type 0 where
  pub signals : List Signal
  pub inputs : List Input
  pub drivers : List Driver
  pub blocks : List Block
  pub memories : List Ram
  pub initials : List Initial
  pub scopes : List Scope
  pub functions : List Function
  pub precision : Precision

-- a number, 0 where there is none
abbrev pub or_0 : Option ℕ → ℕ
or_0 None = 0
or_0 (Some n) = n

-- how many bits a signal has, none where there is no such signal; the words of a memory, those of several, and how many bits each
-- has
abbrev pub width_in : List Signal → ℕ → ℕ
width_in signals n = or_0 (option_map (λ s. s.width) (slice_get signals n))

abbrev pub signal_width : Netlist → ℕ → ℕ
signal_width d n = width_in d.signals n

abbrev pub word_count : Netlist → ℕ → ℕ
word_count d m = or_0 (option_map (λ r. r.words) (slice_get d.memories m))

abbrev pub words_in : List Ram → ℕ
words_in [] = 0
words_in (m ∷ ms) = m.words + words_in ms

abbrev pub word_width : Netlist → ℕ → ℕ
word_width d m = or_0 (option_map (λ r. r.width) (slice_get d.memories m))

-- whether there is a signal that is a register, or that is a net (4.2)
abbrev pub IsRegister : Netlist → ℕ → Type 0
IsRegister d n = option_map (λ s. s.register) (slice_get d.signals n) ≡ Some true

abbrev pub IsNet : Netlist → ℕ → Type 0
IsNet d n = option_map (λ s. s.register) (slice_get d.signals n) ≡ Some false

-- an input, by its signal
abbrev pub IsInput : Netlist → ℕ → Type 0
IsInput d n = Contains (map (λ i. i.signal) d.inputs) n

-- the widths of a function's variables: its inputs, its locals and its result. A block has none
abbrev pub variable_widths : Function → List ℕ
variable_widths f = map (λ s. s.width) f.inputs ++ map (λ s. s.width) f.locals ++ f.width ∷ []

-- how many bits a variable and a name have, none where there is no such variable
abbrev pub variable_width : Netlist → List ℕ → Variable → ℕ
variable_width d locals (variable.Signal n) = signal_width d n
variable_width d locals (variable.Local n) = or_0 (slice_get locals n)

abbrev pub named_width : Netlist → List ℕ → Named → ℕ
named_width d locals (named.Variable x) = variable_width d locals x
named_width d locals (named.Constant bits) = length bits

-- what the initial items assign, and the bits that drivers drive
abbrev pub initial_targets : Netlist → List InitialTarget
initial_targets d = flat_map (λ i. map (λ a. a.target) i.assigns) d.initials

abbrev pub driven_bits : Netlist → List Place
driven_bits d = flat_map (λ a. a.target) d.drivers

-- all that has a property, each once
pub record EachOnce {A : Type 0} (P : A → Type 0) (xs : List A) : Type 0 where
  pub all : (x : A) → P x → Contains xs x
  pub only : All P xs
  pub once : AllPairs (λ x y. x ≢ y) xs

-- the inputs as a script sees them: their names, widths and classes
abbrev pub port : Option Signal → Class → Port
port None class = record { name = []; width = 0; class = class }
port (Some s) class = record { name = s.name; width = s.width; class = class }

abbrev pub ports : Netlist → List Port
ports d = map (λ i. port (slice_get d.signals i.signal) i.class) d.inputs
