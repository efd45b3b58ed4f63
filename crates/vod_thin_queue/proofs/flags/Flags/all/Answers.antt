use Rattle.std.proofs.Common.{arith}
use Rattle.vod_thin_queue.proofs.Tree.{all_set}
use Rattle.vod_thin_queue.proofs.flags.Flags.all.Goals as goal

pub returns : goal.returns
returns c = all_set c.loop-place.flags c.args.len c.loop-place.invariant.same (λ k h. c.loop-place.invariant.set k (omega arith))
