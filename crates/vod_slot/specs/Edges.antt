-- Edge nets in a slot: each changes at most once, from its opening value to the one that its input brings.
use Rattle.std.specs.Prelude.{◌≡◌, ◌⊎◌, ℕ, List, [], ◌∷◌, length, Some, slice_get}
use Rattle.vod_bits.specs.Bit.{Bit}
use Rattle.vod_design.specs.declared.parts.Driver.{Driver}
use Rattle.vod_design.specs.declared.parts.Input.{Input}
use Rattle.vod_design.specs.declared.vector.Move.{Move}
use Rattle.vod_design.specs.Lawful.{assigned}
use Rattle.vod_design.specs.Netlist.{Netlist, signal_width}
use Rattle.vod_design.specs.Nets.{Copies, IsEdgeNet}
use Rattle.vod_slot.specs.Store.{Store, bit_at}
use Rattle.vod_slot.specs.State.{State, option_at}

-- a driver, by its number, that copies one edge net to another
pub record IsLink (d : Netlist) (j : ℕ) (a : Driver) (from to : ℕ) : Type 0 where
  pub at : slice_get d.drivers j ≡ Some a
  pub copies : Copies from to a
  pub net : IsEdgeNet d from

-- what an edge net has
abbrev pub edge_bit : Store → ℕ → Bit
edge_bit store n = bit_at store n 0

-- Each edge net has its opening value or the one that is brought. A move of an input is of that. Where a net has what is brought, the
-- net that it copies has it too; and so it is where it is about to be brought.
pub record AreEdgesKept (d : Netlist) (opening brought : ℕ → Bit) (st : State) : Type 0 where
  pub values : (n : ℕ) → IsEdgeNet d n → (edge_bit st.store n ≡ opening n) ⊎ (edge_bit st.store n ≡ brought n)
  pub moves : (i : ℕ) (x : Input) (v : List Bit) → slice_get d.inputs i ≡ Some x → IsEdgeNet d x.signal → option_at st.moves i ≡ Some v → v ≡ brought x.signal ∷ []
  pub sources : (j from to : ℕ) (a : Driver) → IsLink d j a from to → edge_bit st.store to ≡ brought to → edge_bit st.store from ≡ brought from
  pub pend : (j from to : ℕ) (a : Driver) (v : List Bit) → IsLink d j a from to → option_at st.pend j ≡ Some v → (v ≡ brought to ∷ []) × (edge_bit st.store from ≡ brought from)
  pub openings_agree : (j from to : ℕ) (a : Driver) → IsLink d j a from to → opening to ≡ opening from
  pub brought_agree : (j from to : ℕ) (a : Driver) → IsLink d j a from to → brought to ≡ brought from

-- each assignment has its input's width
abbrev pub DoMovesFit : Netlist → List Move → Type 0
DoMovesFit d moves = (i : ℕ) (x : Input) (v : List Bit) → slice_get d.inputs i ≡ Some x → assigned moves i ≡ Some v → length v ≡ signal_width d x.signal
