use Rattle.std.proofs.Common.{arith, length, ap}
use Rattle.vod_thin_code.proofs.Batches.{length_more, length_within}
use Rattle.vod_thin_code.proofs.frame.batch_len.Goals as goal

pub overflow_add-total-in-loop-vector : goal.overflow_add-total-in-loop-vector
overflow_add-total-in-loop-vector c =
    omega (arith, c.loop-vector.invariant, c.requires, ap length c.as_slice.ensures, length_within c.args.vectors.now c.loop-vector.vector-index c.vector-item.result c.loop-vector-test.true c.vector-item.is)

pub loop-vector-preserved : goal.loop-vector-preserved
loop-vector-preserved c =
    omega (arith, c.loop-vector.invariant, ap length c.as_slice.ensures, length_more c.args.vectors.now c.loop-vector.vector-index c.vector-item.result c.loop-vector-test.true c.vector-item.is)
