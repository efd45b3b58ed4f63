use Rattle.std.proofs.Common.{length}
use Rattle.vod_width.proofs.LeftSides.{LaidSoFar}
use Rattle.vod_width.proofs.left.lay.Given as goal

abbrev pub invariant-loop-part : goal.invariant-loop-part
invariant-loop-part l = LaidSoFar l.fn.parts l.parts l.done.items l.low

abbrev pub decreases-loop-part : goal.decreases-loop-part
decreases-loop-part l = length l.parts
