-- Vectors, and which lists of them are lawful.
use Rattle.std.specs.Prelude.{◌≡◌, ◌≢◌, ℕ, ◌<◌, ◌≤◌, ◌^◌, ◌==◌, ◌||◌, Bool, not, List, [], ◌∷◌, ◌++◌, length, map, filter, IsTrue, All, AllPairs, Option, Some, None, false, if◌then◌else◌}
use Rattle.std.specs.List.{list_all, list_any, enumerate_from}
use Rattle.std.specs.List.Sorted.{IsStrictlyIncreasing}
use Rattle.vod_thin_design.specs.declared.thin.Class.{Class}
use Rattle.vod_thin_design.specs.declared.thin.Move.{Move}
use Rattle.vod_thin_design.specs.declared.thin.Vector.{Vector}
use Rattle.vod_thin_design.specs.Bits.{is_known, same_bit}
use Rattle.vod_thin_design.specs.Netlist.{Netlist, has, is_clock}

-- the inputs that some assignments give a value
abbrev pub assigned : List Move → List ℕ
assigned moves = map (λ move. move.input) moves

-- whether some assignments give each input of the design a value
abbrev pub gives_all : Netlist → List Move → Bool
gives_all d moves = list_all (λ e. has (assigned moves) e.0) (enumerate_from 0 d.inputs)

-- a vector in form: it assigns at least one input, each at most once, of the design, a known value
pub record IsVector (d : Netlist) (v : Vector) : Type 0 where
  pub assigns : 0 < length v.moves
  pub once : AllPairs (λ i k. i ≢ k) (assigned v.moves)
  pub inputs : All (λ i. i < length d.inputs) (assigned v.moves)
  pub known : All (λ move. IsTrue (is_known move.value)) v.moves

-- the times of vectors
abbrev pub times : List Vector → List ℕ
times vs = map (λ v. v.time) vs

-- whether the last of some assignments of an input is this value; with none, `otherwise`
abbrev pub holds : Bool → List Move → Move → Bool
holds otherwise [] move = otherwise
holds otherwise (given ∷ more) move = holds (if given.input == move.input then same_bit given.value move.value else otherwise) more move

-- the assignments of a vector that change what earlier ones left
abbrev pub changes : List Move → List Move → List Move
changes before moves = filter (λ move. not (holds false before move)) moves

-- whether the input of an assignment is of this class, or none of the design
abbrev pub has_class : (Class → Bool) → Netlist → Move → Bool
has_class test d move = list_all (λ e. not (e.0 == move.input) || test e.1.class) (enumerate_from 0 d.inputs)

-- whether the changes of a vector are all of clocks, or all of data
abbrev pub is_unmixed : Netlist → List Move → List Move → Bool
is_unmixed d before moves = list_all (has_class is_clock d) (changes before moves) || list_all (has_class (λ c. not (is_clock c)) d) (changes before moves)

-- each vector is so, behind those before it
abbrev pub AreUnmixed : Netlist → List Move → List Vector → Type 0
AreUnmixed d before [] = Unit {0}
AreUnmixed d before (v ∷ vs) = IsTrue (is_unmixed d before v.moves) × AreUnmixed d (before ++ v.moves) vs

-- whether the design has a data input
abbrev pub has_data : Netlist → Bool
has_data d = list_any (λ input. not (is_clock input.class)) d.inputs

-- whether some assignments are of every data input, and of no clock
abbrev pub gives_data : Netlist → List Move → Bool
gives_data d moves = list_all (λ e. if is_clock e.1.class then not (has (assigned moves) e.0) else has (assigned moves) e.0) (enumerate_from 0 d.inputs)

-- Lawful vectors: times from 1 to 2^63-1 rise; each vector is in form; where there are data inputs, the first vector
-- assigns all of them and no clock; what changes in a vector is all of clocks or all of data.
pub record IsLawful (d : Netlist) (vs : List Vector) : Type 0 where
  pub rising : IsStrictlyIncreasing (times vs)
  pub within : All (λ t. (1 ≤ t) × (t < 2 ^ 63)) (times vs)
  pub forms : All (IsVector d) vs
  pub first : (v : Vector) (rest : List Vector) → vs ≡ v ∷ rest → IsTrue (has_data d) → IsTrue (gives_data d v.moves)
  pub unmixed : AreUnmixed d [] vs

-- the time of the first vector after which each input has a value, or none; some assignments came before
abbrev pub known_since_after : Netlist → List Move → List Vector → Option ℕ
known_since_after d given [] = None
known_since_after d given (v ∷ vs) = if gives_all d (given ++ v.moves) then Some v.time else known_since_after d (given ++ v.moves) vs

-- the time from which on each input has a value, or none
abbrev pub known_since : Netlist → List Vector → Option ℕ
known_since d vs = known_since_after d [] vs

-- the time of the last vector, or the time given where there is none
abbrev pub last_time_after : ℕ → List Vector → ℕ
last_time_after t [] = t
last_time_after t (v ∷ vs) = last_time_after v.time vs

-- the time of the last vector, or 0
abbrev pub last_time : List Vector → ℕ
last_time vs = last_time_after 0 vs
