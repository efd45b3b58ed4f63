use Rattle.std.proofs.Common.{length}
use Rattle.vod_thin_queue.specs.Step.{reads_signal}
use Rattle.vod_thin_queue.proofs.Index.{IsIndex-more}
use Rattle.vod_thin_queue.proofs.fanout.readers_of.Goals as goal

pub loop-place-preserved : goal.loop-place-preserved
loop-place-preserved c =
    IsIndex-more reads_signal c.args.design.now.drivers c.drivers-driver-items.result.now c.loop-place.place c.driver-item.result (length c.args.design.now.signals) c.loop-place.fanout _ c.drivers-driver-items.ensures.items c.loop-place-test.true c.driver-item.is
    c.loop-place.invariant c.in_ok-add_reads.ensures.same c.in_ok-add_reads.ensures.added
