use Rattle.vod_level.proofs.Steps.{IsReadyTo}
use Rattle.vod_level.proofs.peel.ready.Given as goal

abbrev pub invariant-loop-driver : goal.invariant-loop-driver
invariant-loop-driver l = IsReadyTo l.driver l.left l.ready.items
