-- What vectors give the inputs, and the class of those that a slot changes.
use Rattle.std.specs.Prelude.{◌≡◌, ◌⊎◌, ℕ, List, replicate, Some, unwrap_or, slice_get}
use Rattle.vod_bits.specs.Bit.{Bit, BX, BZ}
use Rattle.vod_design.specs.declared.parts.Input.{Input}
use Rattle.vod_design.specs.declared.vector.Class.{Class}
use Rattle.vod_design.specs.declared.vector.Move.{Move}
use Rattle.vod_design.specs.declared.vector.Vector.{Vector}
use Rattle.vod_design.specs.Lawful.{assigned, given}
use Rattle.vod_design.specs.Netlist.{Netlist, signal_width}
use Rattle.vod_design.specs.Values.{value_at}
use Rattle.vod_slot.specs.State.{State}

-- what the assignments change is of one class: each other one gives its input what it has
abbrev pub ChangesClass : Netlist → State → List Move → Class → Type 0
ChangesClass d s moves class = (i : ℕ) (x : Input) (v : List Bit) → slice_get d.inputs i ≡ Some x → assigned moves i ≡ Some v → (x.class ≡ class) ⊎ (value_at BX s.store.signals x.signal ≡ v)

-- each input has what the vectors gave it last, and z where they gave it nothing
abbrev pub HaveGiven : Netlist → List Vector → State → Type 0
HaveGiven d before s = (i : ℕ) (x : Input) → slice_get d.inputs i ≡ Some x → value_at BX s.store.signals x.signal ≡ unwrap_or (given before i) (replicate (signal_width d x.signal) BZ)
