-- For each signal, the places of the drivers that read it, or of the blocks that wait for it, listed.
use Rattle.std.specs.Prelude.{◌≡◌, ℕ, ◌<◌, Bool, false, List, [], ◌∷◌, length, zero, suc}
use Rattle.vod_thin_design.specs.Netlist.{Netlist, has}
use Rattle.vod_thin_queue.specs.declared.fanout.Listeners.{Listeners}
use Rattle.vod_thin_queue.specs.State.{list_at}
use Rattle.vod_thin_queue.specs.Step.{reads_signal, waits_for}

-- whether the item at a place passes a test, false past the end
abbrev pub passes_at : {A : Type 0} → (A → Bool) → List A → ℕ → Bool
passes_at test [] place = false
passes_at test (x ∷ xs) zero = test x
passes_at test (x ∷ xs) (suc place) = passes_at test xs place

-- for each of so many signals a list that has just the places of the items that pass its test
pub record IsIndex {A : Type 0} (test : ℕ → A → Bool) (items : List A) (signals : ℕ) (lists : List (List ℕ)) : Type 0 where
  pub covers : length lists ≡ signals
  pub exact : (s place : ℕ) → s < signals → has (list_at lists s) place ≡ passes_at (test s) items place

-- the lists of a design: the drivers that read each signal, and the blocks that wait for it
pub record AreListeners (d : Netlist) (listeners : Listeners) : Type 0 where
  pub readers : IsIndex reads_signal d.drivers (length d.signals) listeners.readers
  pub waiters : IsIndex waits_for d.blocks (length d.signals) listeners.waiters
