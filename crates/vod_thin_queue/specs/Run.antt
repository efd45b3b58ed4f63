-- Slots and runs: any order of allowed events (IEEE 1364-2005, 11.4).
use Rattle.std.specs.Prelude.{◌≡◌, ℕ, ◌<◌, ◌||◌, Bool, false, not, List, [], ◌∷◌, length, filter, IsTrue, Some, slice_get, slice_index}
use Rattle.std.specs.List.{list_all}
use Rattle.vod_thin_design.specs.declared.thin.Bit.{Bit}
use Rattle.vod_thin_design.specs.declared.thin.Driver.{Driver}
use Rattle.vod_thin_design.specs.declared.thin.Move.{Move}
use Rattle.vod_thin_design.specs.declared.thin.Vector.{Vector}
use Rattle.vod_thin_design.specs.Bits.{value_at, same_bit}
use Rattle.vod_thin_design.specs.Expr.{value_of}
use Rattle.vod_thin_design.specs.Netlist.{Netlist, is_clock, input_signals}
use Rattle.vod_thin_design.specs.Vectors.{holds, has_class}
use Rattle.vod_thin_queue.specs.State.{State, start_of, opened, IsResting}
use Rattle.vod_thin_queue.specs.Step.{Event, is_allowed, after}

-- these events, each allowed when its turn comes, lead from s to t
abbrev pub Steps : Netlist → State → List Event → State → Type 0
Steps d s [] t = t ≡ s
Steps d s (event ∷ events) t = IsTrue (is_allowed s event) × Steps d (after d s event) events t

-- some allowed events lead from s to t, and nothing is left there
pub record Completes (d : Netlist) (s t : State) : Type 0 where
  pub events : List Event
  pub steps : Steps d s events t
  pub ends : IsResting t

-- a slot: from s, where nothing is left, the assignments become moves, and t is an end of that
pub record IsSlot (d : Netlist) (s : State) (moves : List Move) (t : State) : Type 0 where
  pub opens : IsResting s
  pub completes : Completes d (opened d moves s) t

-- one slot for each vector, each from the end of the one before
abbrev pub AreSlots : Netlist → State → List Vector → List State → Type 0
AreSlots d s [] [] = Unit {0}
AreSlots d s [] (t ∷ ts) = ⊥
AreSlots d s (v ∷ vs) [] = ⊥
AreSlots d s (v ∷ vs) (t ∷ ts) = IsSlot d s v.moves t × AreSlots d t vs ts

-- a legal run: the end of slot 0, and the end of the slot of each vector
pub record IsRun (d : Netlist) (vs : List Vector) (first : State) (ends : List State) : Type 0 where
  pub first_slot : Completes d (start_of d) first
  pub slots : AreSlots d first vs ends

-- each driver's target has its right side's value
abbrev pub IsSettled : Netlist → State → Type 0
IsSettled d st = (j : ℕ) (driver : Driver) → slice_get d.drivers j ≡ Some driver → value_at st.val driver.target ≡ value_of driver.value (value_at st.val)

-- the value of an input
abbrev pub input_value : Netlist → State → ℕ → Bit
input_value d st i = value_at st.val (slice_index (input_signals d) i)

-- the assignments that change what their inputs have
abbrev pub changes_from : Netlist → State → List Move → List Move
changes_from d st moves = filter (λ move. not (same_bit (input_value d st move.input) move.value)) moves

-- what the assignments change is all of clocks, or all of data
abbrev pub is_unmixed_from : Netlist → State → List Move → Bool
is_unmixed_from d st moves = list_all (has_class is_clock d) (changes_from d st moves) || list_all (has_class (λ c. not (is_clock c)) d) (changes_from d st moves)

-- each input that some assignments gave a value has the last one that they gave
abbrev pub HasTaken : Netlist → List Move → State → Type 0
HasTaken d given st = (move : Move) → move.input < length d.inputs → IsTrue (holds false given move) → input_value d st move.input ≡ move.value
