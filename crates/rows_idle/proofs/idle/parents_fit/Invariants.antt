use Rattle.std.proofs.Common.{take}
use Rattle.rows_idle.specs.Idle.{ParentsFit}
use Rattle.rows_idle.proofs.idle.parents_fit.Given as goal

abbrev pub invariant-loop-n : goal.invariant-loop-n
invariant-loop-n l = ParentsFit 0 (take l.n l.scopes)
