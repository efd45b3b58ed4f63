-- The vectors before the rest were added.
use Rattle.std.proofs.Common.{◌≡◌, length}
use Rattle.vod_thin_replay.proofs.Payloads.{HasAdded}
use Rattle.vod_thin_replay.proofs.batch.add_payload.Given as goal

abbrev pub invariant-loop-rest : goal.invariant-loop-rest
invariant-loop-rest l = record {
  design : l.past.design ≡ l.design;
  added : HasAdded l.design l.payload l.fn.past.vectors l.rest l.past.vectors;
}

abbrev pub decreases-loop-rest : goal.decreases-loop-rest
decreases-loop-rest l = length l.rest
