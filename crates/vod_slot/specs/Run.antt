-- Steps in any order, slots and runs (IEEE 1364-2005, 11.4).
use Rattle.std.specs.Prelude.{◌≡◌, ◌⊎◌, ℕ, List, [], ◌∷◌, IsTrue, Some, slice_get}
use Rattle.vod_bits.specs.Bit.{Bit, BX}
use Rattle.vod_design.specs.declared.parts.Input.{Input}
use Rattle.vod_design.specs.declared.vector.Class.TheVariants.{Data}
use Rattle.vod_design.specs.declared.vector.Move.{Move}
use Rattle.vod_design.specs.declared.vector.Vector.{Vector}
use Rattle.vod_design.specs.Lawful.{assigned}
use Rattle.vod_design.specs.Netlist.{Netlist}
use Rattle.vod_design.specs.Values.{value_at}
use Rattle.vod_slot.specs.State.{State, start_of, opened, IsResting}
use Rattle.vod_slot.specs.Step.{Event, is_allowed, after}

-- these events, each allowed when its turn comes, lead from s to t
abbrev pub Steps : Netlist → State → List Event → State → Type 0
Steps d s [] t = t ≡ s
Steps d s (event ∷ events) t = IsTrue (is_allowed s event) × Steps d (after d s event) events t

-- some allowed events lead from s to t, and nothing is left there
pub record Completes (d : Netlist) (s t : State) : Type 0 where
  pub events : List Event
  pub steps : Steps d s events t
  pub ends : IsResting t

-- a slot: from s, where nothing is left, the assignments become moves, and t is an end of that
pub record IsSlot (d : Netlist) (s : State) (moves : List Move) (t : State) : Type 0 where
  pub opens : IsResting s
  pub completes : Completes d (opened d moves s) t

-- one slot for each vector, each from the end of the one before
abbrev pub AreSlots : Netlist → State → List Vector → List State → Type 0
AreSlots d s [] [] = Unit {0}
AreSlots d s [] (t ∷ ts) = ⊥
AreSlots d s (v ∷ vs) [] = ⊥
AreSlots d s (v ∷ vs) (t ∷ ts) = IsSlot d s v.moves t × AreSlots d t vs ts

-- a legal run: the end of slot 0, and the end of the slot of each vector
pub record IsRun (d : Netlist) (vs : List Vector) (first : State) (ends : List State) : Type 0 where
  pub first_slot : Completes d (start_of d) first
  pub slots : AreSlots d first vs ends

-- what the assignments change is data alone: each other one gives its input what it has
abbrev pub ChangesData : Netlist → State → List Move → Type 0
ChangesData d s moves = (i : ℕ) (x : Input) (v : List Bit) → slice_get d.inputs i ≡ Some x → assigned moves i ≡ Some v → (x.class ≡ Data) ⊎ (value_at BX s.store.signals x.signal ≡ v)
