-- What each state keeps of its drivers, and where all of them are settled.
use Rattle.std.specs.Prelude.{◌≡◌, ◌⊎◌, ℕ, Bool, true, List, All, Option, None, Some, slice_get}
use Rattle.vod_bits.specs.Bit.{Bit, BX}
use Rattle.vod_design.specs.declared.parts.Driver.{Driver}
use Rattle.vod_design.specs.Netlist.{Netlist, IsRegister, IsInput}
use Rattle.vod_design.specs.Values.{value_at}
use Rattle.vod_slot.specs.Store.{Store, brought, bits_at}
use Rattle.vod_slot.specs.State.{State, flag_at, option_at}
use Rattle.vod_slot.specs.Shape.{IsShaped, WritesRegisters}

-- a driver awaits evaluation; or what it brings is its pending value; or it has none, and its target has that
abbrev pub IsFollowed : Netlist → Store → Driver → Bool → Option (List Bit) → Type 0
IsFollowed d store a flag value = (flag ≡ true) ⊎ ((value ≡ Some (brought d store a)) ⊎ ((value ≡ None) × (bits_at store a.target ≡ brought d store a)))

abbrev pub AreFollowed : Netlist → State → Type 0
AreFollowed d st = (j : ℕ) (a : Driver) → slice_get d.drivers j ≡ Some a → IsFollowed d st.store a (flag_at st.wake j) (option_at st.pend j)

-- each driver's target has what it brings (6.1.2)
abbrev pub IsSettled : Netlist → Store → Type 0
IsSettled d store = All (λ (a : Driver). bits_at store a.target ≡ brought d store a) d.drivers

-- what each state keeps that a run comes to
pub record IsConsistent (d : Netlist) (st : State) : Type 0 where
  pub shaped : IsShaped d st
  pub registers : WritesRegisters d st
  pub followed : AreFollowed d st

-- two stores with the same registers, inputs and memory words
pub record AgreeFirst (d : Netlist) (s t : Store) : Type 0 where
  pub registers : (n : ℕ) → IsRegister d n → value_at BX s.signals n ≡ value_at BX t.signals n
  pub inputs : (n : ℕ) → IsInput d n → value_at BX s.signals n ≡ value_at BX t.signals n
  pub memories : s.memories ≡ t.memories
