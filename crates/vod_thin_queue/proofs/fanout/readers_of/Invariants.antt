use Rattle.std.proofs.Common.{length, take}
use Rattle.vod_thin_queue.specs.Step.{reads_signal}
use Rattle.vod_thin_queue.specs.Index.{IsIndex}
use Rattle.vod_thin_queue.proofs.fanout.readers_of.Given as goal

abbrev pub invariant-loop-place : goal.invariant-loop-place
invariant-loop-place l = IsIndex reads_signal (take l.place l.design.drivers) (length l.design.signals) l.fanout
