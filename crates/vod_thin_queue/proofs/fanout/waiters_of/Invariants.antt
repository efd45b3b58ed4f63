use Rattle.std.proofs.Common.{length, take}
use Rattle.vod_thin_queue.specs.Step.{waits_for}
use Rattle.vod_thin_queue.specs.Index.{IsIndex}
use Rattle.vod_thin_queue.proofs.fanout.waiters_of.Given as goal

abbrev pub invariant-loop-place : goal.invariant-loop-place
invariant-loop-place l = IsIndex waits_for (take l.place l.design.blocks) (length l.design.signals) l.fanout
