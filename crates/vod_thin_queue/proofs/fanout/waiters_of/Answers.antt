use Rattle.std.proofs.Common.{length}
use Rattle.vod_thin_queue.proofs.Index.{IsIndex-more_one}
use Rattle.vod_thin_queue.proofs.fanout.waiters_of.Goals as goal

pub loop-place-preserved : goal.loop-place-preserved
loop-place-preserved c =
    IsIndex-more_one c.args.design.now c.blocks-block-items.result.now c.loop-place.place c.block-item.result (length c.args.design.now.signals) c.loop-place.fanout _ c.blocks-block-items.ensures.items c.loop-place-test.true c.block-item.is
    c.loop-place.invariant c.in_ok-push.ensures.same c.in_ok-push.ensures.pushed
