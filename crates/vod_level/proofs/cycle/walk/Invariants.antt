use Rattle.std.proofs.Common.{◌<◌}
use Rattle.vod_level.proofs.Walking.{Walking}
use Rattle.vod_level.proofs.cycle.walk.Given as goal

abbrev pub invariant-loop-left : goal.invariant-loop-left
invariant-loop-left l = record {
  walking : Walking l.feeds l.steps l.goal l.driver l.left l.cycle.items;
  inside : l.driver < l.count;
}

abbrev pub decreases-loop-left : goal.decreases-loop-left
decreases-loop-left l = l.left
