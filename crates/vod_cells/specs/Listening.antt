-- What the tables of readers hold, and the flags that are raised by them.
use Rattle.std.specs.Prelude.{◌≡◌, ℕ, suc, zero, ◌==◌, ◌&&◌, ◌||◌, if◌then◌else◌, Bool, false, List, [], ◌∷◌, length, map, fold, slice_set, Option, None, Some}
use Rattle.vod_bits.specs.Bit.{Bit}
use Rattle.vod_design.specs.declared.parts.Block.{Block}
use Rattle.vod_design.specs.declared.parts.Edge.{Edge}
use Rattle.vod_design.specs.Netlist.{Netlist}
use Rattle.vod_design.specs.Reads.{reads}
use Rattle.vod_fanout.specs.FanOut.{each_from}
use Rattle.vod_readers.specs.Readers.{signals_of, memories_of, nets_of, readers_from}
use Rattle.vod_slot.specs.State.{flag_at}
use Rattle.vod_slot.specs.Step.{is_rising, is_falling}
use Rattle.vod_cells.specs.declared.listeners.Listeners.{Listeners}

-- the tables of a design: what each driver can read, the drivers that can read each signal and each memory, and the blocks that wait
-- for each signal
pub record AreListeners (d : Netlist) (l : Listeners) : Type 0 where
  pub reads : l.reads.items ≡ map (λ a. reads a.value) d.drivers
  pub signals : l.signals ≡ each_from (readers_from signals_of 0 d.drivers) 0 (length d.signals)
  pub memories : l.memories ≡ each_from (readers_from memories_of 0 d.drivers) 0 (length d.memories)
  pub blocks : l.blocks ≡ each_from (readers_from nets_of 0 d.blocks) 0 (length d.signals)

-- whether the item at a place passes a test, false past the end
abbrev pub passes_at : {A : Type 0} → (A → Bool) → List A → ℕ → Bool
passes_at test [] place = false
passes_at test (x ∷ xs) zero = test x
passes_at test (x ∷ xs) (suc place) = passes_at test xs place

-- the flags, with those of the listed places set whose items pass a test
abbrev pub raised_at : (ℕ → Bool) → List Bool → List ℕ → List Bool
raised_at test flags places = fold (λ flags place. slice_set flags place (flag_at flags place || test place)) flags places

-- whether a change of a net's lowest bit is a posedge or a negedge, as one is waited for; and whether it starts a block that waits
abbrev pub is_change : Bool → Bit → Bit → Bool
is_change rising old new = if rising then is_rising old new else is_falling old new

abbrev pub is_first_edge : ℕ → Bit → Bit → Edge → Bool
is_first_edge signal old new e = (e.signal == signal) && is_change e.rising old new

abbrev pub is_first_reset : ℕ → Bit → Bit → Option Edge → Bool
is_first_reset signal old new None = false
is_first_reset signal old new (Some e) = is_first_edge signal old new e

abbrev pub starts_block : ℕ → Bit → Bit → Block → Bool
starts_block signal old new b = is_first_edge signal old new b.clock || is_first_reset signal old new b.reset
