-- Each state has a place for each signal, input, initial value, driver and block, and keeps it.
use Rattle.std.proofs.Common.{◌≡◌, ℕ, ◌==◌, ◌++◌, [], ◌∷◌, not, true, false, Bool, List, length, set, drop, ◌∙◌, Option, Some, None, length-set, unwrap_or, slice_index, slice_index_or, if◌then◌else◌}
use Rattle.std.specs.List.{slice_get}
use Rattle.std.proofs.lemmas.List.{length-replicate, length-map}
use Rattle.vod_thin_design.specs.declared.thin.Bit.{Bit}
use Rattle.vod_thin_design.specs.declared.thin.Bit.TheVariants.{X, Z}
use Rattle.vod_thin_design.specs.declared.thin.Driver.{Driver}
use Rattle.vod_thin_design.specs.declared.thin.Block.{Block}
use Rattle.vod_thin_design.specs.declared.thin.Move.{Move}
use Rattle.vod_thin_design.specs.Bits.{value_at, same_bit}
use Rattle.vod_thin_design.specs.Expr.{value_of, reads}
use Rattle.vod_thin_design.specs.Netlist.{Netlist, has, targets, input_signals, assigned_registers, initial_registers}
use Rattle.vod_thin_queue.specs.declared.event.Event.TheVariants.{TakeMove, Evaluate, Update, Run, Initialize, Activate, Perform}
use Rattle.vod_thin_queue.specs.State.{State, start_of, opened, option_at, list_at, assignment, IsShaped}
use Rattle.vod_thin_queue.specs.Step.{Event, after, put, pending, evaluated, ran, is_rising, initial_values, reads_signal, waits_for}
use Rattle.vod_thin_queue.proofs.First.{length-first_values}
use Rattle.vod_thin_queue.proofs.Tabled.{length-tabled}
use Rattle.vod_thin_queue.proofs.Raised.{length-raised_if}

pub IsShaped-start_of : (d : Netlist) → IsShaped d (start_of d)
IsShaped-start_of d = record {
  val = length-first_values (input_signals d) d.signals;
  moves = length-replicate (length d.inputs) None;
  init = length-replicate (length d.initials) true;
  wake = length-replicate (length d.drivers) true;
  pend = length-replicate (length d.drivers) None;
  todo = length-replicate (length d.blocks) false;
  later = length-replicate (length d.blocks) [];
  now = length-replicate (length d.blocks) [];
}

pub IsShaped-opened : (d : Netlist) (moves : List Move) (s : State) → IsShaped d s → IsShaped d (opened d moves s)
IsShaped-opened d moves s shaped =
    record { val = shaped.val; moves = length-tabled (assignment moves) d.inputs; init = shaped.init; wake = shaped.wake; pend = shaped.pend; todo = shaped.todo; later = shaped.later; now = shaped.now }

pub IsShaped-put : (d : Netlist) (signal : ℕ) (b : Bit) (s : State) → IsShaped d s → IsShaped d (put d signal b s)
IsShaped-put d signal b s shaped = record {
  val = length-set s.val signal b ∙ shaped.val;
  moves = shaped.moves;
  init = shaped.init;
  wake = length-raised_if (not (same_bit (value_at s.val signal) b)) (reads_signal signal) d.drivers s.wake ∙ shaped.wake;
  pend = shaped.pend;
  todo = length-raised_if (is_rising (value_at s.val signal) b) (waits_for signal) d.blocks s.todo ∙ shaped.todo;
  later = shaped.later;
  now = shaped.now;
}

IsShaped-evaluated : (d : Netlist) (j : ℕ) (driver : Option Driver) (s : State) → IsShaped d s → IsShaped d (evaluated j driver s)
IsShaped-evaluated d j None s shaped = shaped
IsShaped-evaluated d j (Some driver) s shaped = record {
  val = shaped.val;
  moves = shaped.moves;
  init = shaped.init;
  wake = length-set s.wake j false ∙ shaped.wake;
  pend = length-set s.pend j (pending (value_of driver.value (value_at s.val)) (value_at s.val driver.target)) ∙ shaped.pend;
  todo = shaped.todo;
  later = shaped.later;
  now = shaped.now;
}

IsShaped-ran : (d : Netlist) (k : ℕ) (block : Option Block) (s : State) → IsShaped d s → IsShaped d (ran k block s)
IsShaped-ran d k None s shaped = shaped
IsShaped-ran d k (Some block) s shaped = record {
  val = shaped.val;
  moves = shaped.moves;
  init = shaped.init;
  wake = shaped.wake;
  pend = shaped.pend;
  todo = length-set s.todo k false ∙ shaped.todo;
  later = length-set s.later k (list_at s.later k ++ value_of block.value (value_at s.val) ∷ []) ∙ shaped.later;
  now = shaped.now;
}

pub IsShaped-after : (d : Netlist) (s : State) (event : Event) → IsShaped d s → IsShaped d (after d s event)
IsShaped-after d s (TakeMove i) shaped =
    IsShaped-put d (slice_index (input_signals d) i) (unwrap_or (option_at s.moves i) X) (record s { moves = set s.moves i None })
    (record { val = shaped.val; moves = length-set s.moves i None ∙ shaped.moves; init = shaped.init; wake = shaped.wake; pend = shaped.pend; todo = shaped.todo; later = shaped.later; now = shaped.now })
IsShaped-after d s (Evaluate j) shaped = IsShaped-evaluated d j (slice_get d.drivers j) s shaped
IsShaped-after d s (Update j) shaped =
    IsShaped-put d (slice_index (targets d.drivers) j) (unwrap_or (option_at s.pend j) X) (record s { pend = set s.pend j None })
    (record { val = shaped.val; moves = shaped.moves; init = shaped.init; wake = shaped.wake; pend = length-set s.pend j None ∙ shaped.pend; todo = shaped.todo; later = shaped.later; now = shaped.now })
IsShaped-after d s (Run k) shaped = IsShaped-ran d k (slice_get d.blocks k) s shaped
IsShaped-after d s (Initialize m) shaped =
    IsShaped-put d (slice_index (initial_registers d.initials) m) (slice_index_or (initial_values d.initials) m X) (record s { init = set s.init m false })
    (record { val = shaped.val; moves = shaped.moves; init = length-set s.init m false ∙ shaped.init; wake = shaped.wake; pend = shaped.pend; todo = shaped.todo; later = shaped.later; now = shaped.now })
IsShaped-after d s Activate shaped =
    record { val = shaped.val; moves = shaped.moves; init = shaped.init; wake = shaped.wake; pend = shaped.pend; todo = shaped.todo; later = length-map s.later (λ updates. []) ∙ shaped.later; now = shaped.later }
IsShaped-after d s (Perform k) shaped =
    IsShaped-put d (slice_index (assigned_registers d.blocks) k) (slice_index_or (list_at s.now k) 0 X) (record s { now = set s.now k (drop 1 (list_at s.now k)) })
    (record { val = shaped.val; moves = shaped.moves; init = shaped.init; wake = shaped.wake; pend = shaped.pend; todo = shaped.todo; later = shaped.later; now = length-set s.now k (drop 1 (list_at s.now k)) ∙ shaped.now })
