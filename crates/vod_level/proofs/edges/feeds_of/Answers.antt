use Rattle.std.proofs.Common.{◌∙◌}
use Rattle.vod_level.proofs.Writing.{feeds_step}
use Rattle.vod_level.proofs.edges.feeds_of.Goals as goal

pub loop-reader-preserved : goal.loop-reader-preserved
loop-reader-preserved c = λ p q. feeds_step c.args.writers.now c.args.drivers.now c.loop-reader.reader c.index-drivers-reader.result p q c.loop-reader.list.items c.add_all.new.list.items c.as_slice.result.now c.index-drivers-reader.is
    c.loop-reader-test.true (c.as_slice.ensures.value ∙ c.in_ok-reads.ensures) (c.loop-reader.invariant p q) (c.in_ok-add_all.ensures p q)
