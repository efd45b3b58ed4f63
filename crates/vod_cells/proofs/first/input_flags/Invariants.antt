use Rattle.std.proofs.Common.{◌≡◌, true, false, length, take, replicate}
use Rattle.vod_slot.specs.State.{input_signals}
use Rattle.vod_cells.specs.Listening.{raised_at}
use Rattle.vod_cells.proofs.first.input_flags.Given as goal

abbrev pub invariant-loop-input : goal.invariant-loop-input
invariant-loop-input l = (length l.flags ≡ l.fn.signals) × (l.flags ≡ raised_at (λ n. true) (replicate l.fn.signals false) (input_signals (take l.input-index l.inputs)))
