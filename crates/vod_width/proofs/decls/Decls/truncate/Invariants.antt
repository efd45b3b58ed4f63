use Rattle.std.proofs.Common.{length}
use Rattle.vod_width.proofs.Tables.{TakenOff}
use Rattle.vod_width.proofs.decls.Decls.truncate.Given as goal

abbrev pub invariant-loop-self : goal.invariant-loop-self
invariant-loop-self l = TakenOff l.fn.self l.self l.count

abbrev pub decreases-loop-self : goal.decreases-loop-self
decreases-loop-self l = length l.self
