use Rattle.std.proofs.Common.{◌-◌}
use Rattle.vod_level.specs.Peel.{Peeling}
use Rattle.vod_level.proofs.peel.peel.Given as goal

abbrev pub invariant-loop-next : goal.invariant-loop-next
invariant-loop-next l = Peeling l.feeds l.count l.next l.ready.items l.levels.items l.left.items

abbrev pub decreases-loop-next : goal.decreases-loop-next
decreases-loop-next l = l.count - l.next
