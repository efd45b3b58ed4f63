use Rattle.std.proofs.Common.{◌-◌}
use Rattle.vod_level.specs.Steps.{Searching}
use Rattle.vod_level.proofs.cycle.steps_to.Given as goal

abbrev pub invariant-loop-next : goal.invariant-loop-next
invariant-loop-next l = Searching l.turned l.count l.goal l.next l.reached.items l.steps.items

abbrev pub decreases-loop-next : goal.decreases-loop-next
decreases-loop-next l = l.count - l.next
