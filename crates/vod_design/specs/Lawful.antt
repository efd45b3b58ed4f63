-- Which lists of vectors are lawful for inputs of given widths and classes.
use Rattle.std.specs.Prelude.{◌≡◌, ◌≢◌, ◌⊎◌, ℕ, ◌<◌, ◌≤◌, ◌^◌, ◌==◌, List, [], ◌∷◌, ◌++◌, length, map, All, Option, None, Some, option_map, if◌then◌else◌, slice_get}
use Rattle.std.specs.List.{Contains}
use Rattle.std.specs.List.Sorted.{IsStrictlyIncreasing}
use Rattle.vod_bits.specs.Bit.{Bit}
use Rattle.vod_design.specs.declared.vector.Class.{Class}
use Rattle.vod_design.specs.declared.vector.Class.TheVariants.{Clock, Reset, Data}
use Rattle.vod_design.specs.declared.vector.Move.{Move}
use Rattle.vod_design.specs.declared.vector.Vector.{Vector}

-- an input as those see it who give it values: its name, its width and its class
pub record Port : Type 0 where
  pub name : List ℕ
  pub width : ℕ
  pub class : Class

-- the width of the input of a number, and its class; none where there is no such input
abbrev pub width_at : List Port → ℕ → Option ℕ
width_at ports n = option_map (λ p. p.width) (slice_get ports n)

abbrev pub class_at : List Port → ℕ → Option Class
class_at ports n = option_map (λ p. p.class) (slice_get ports n)

abbrev pub times : List Vector → List ℕ
times vs = map (λ v. v.time) vs

abbrev pub inputs : Vector → List ℕ
inputs v = map (λ m. m.input) v.moves

-- a vector in form: a time from 1 to 2^63-1, and at least one assignment, by rising input number, each of its input's width
pub record IsInForm (ports : List Port) (v : Vector) : Type 0 where
  pub begun : 1 ≤ v.time
  pub within : v.time < 2 ^ 63
  pub some : 1 ≤ length v.moves
  pub rising : IsStrictlyIncreasing (inputs v)
  pub fits : All (λ m. width_at ports m.input ≡ Some (length m.value)) v.moves

-- what some assignments give an input, and what it was given last by some vectors: none where it wasn't
abbrev pub assigned : List Move → ℕ → Option (List Bit)
assigned [] n = None
assigned (m ∷ ms) n = if m.input == n then Some m.value else assigned ms n

abbrev pub latest : Option (List Bit) → Option (List Bit) → Option (List Bit)
latest None before = before
latest (Some b) before = Some b

abbrev pub given : List Vector → ℕ → Option (List Bit)
given [] n = None
given (v ∷ vs) n = latest (given vs n) (assigned v.moves n)

-- an assignment is a move where its input hasn't this value already
abbrev pub IsMove : List Vector → Move → Type 0
IsMove before m = given before m.input ≢ Some m.value

-- the moves of a vector are all of inputs of a class, or all of one reset
abbrev pub MovesClass : List Port → List Vector → Vector → Class → Type 0
MovesClass ports before v class = All (λ m. IsMove before m → class_at ports m.input ≡ Some class) v.moves

pub record MovesReset (ports : List Port) (before : List Vector) (v : Vector) : Type 0 where
  pub input : ℕ
  pub reset : class_at ports input ≡ Some Reset
  pub alone : All (λ m. IsMove before m → m.input ≡ input) v.moves

abbrev pub IsUnmixed : List Port → List Vector → Vector → Type 0
IsUnmixed ports before v = MovesClass ports before v Clock ⊎ (MovesClass ports before v Data ⊎ MovesReset ports before v)

-- a vector may be the first: where there is a data input, it assigns each of them, and nothing else
abbrev pub MayOpen : List Port → Vector → Type 0
MayOpen ports v = (n : ℕ) → class_at ports n ≡ Some Data → Contains (inputs v) n × All (λ m. class_at ports m.input ≡ Some Data) v.moves

-- Lawful vectors: in form, at rising times; the first may be the first; each moves clocks alone, data alone, or one reset.
pub record IsLawful (ports : List Port) (vs : List Vector) : Type 0 where
  pub forms : All (IsInForm ports) vs
  pub rising : IsStrictlyIncreasing (times vs)
  pub opens : (v : Vector) (rest : List Vector) → vs ≡ v ∷ rest → MayOpen ports v
  pub unmixed : (before : List Vector) (v : Vector) (behind : List Vector) → vs ≡ before ++ v ∷ behind → IsUnmixed ports before v

-- one vector more, behind these
pub record IsNext (ports : List Port) (vs : List Vector) (v : Vector) : Type 0 where
  pub form : IsInForm ports v
  pub later : All (λ t. t < v.time) (times vs)
  pub opens : vs ≡ [] → MayOpen ports v
  pub unmixed : IsUnmixed ports vs v

-- whether each input was given a value
abbrev pub AllGiven : List Port → List Vector → Type 0
AllGiven ports vs = (n : ℕ) → n < length ports → given vs n ≢ None
