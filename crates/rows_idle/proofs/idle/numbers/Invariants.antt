use Rattle.std.proofs.Common.{◌≡◌, take}
use Rattle.rows_idle.specs.Idle.{numbers}
use Rattle.rows_idle.proofs.idle.numbers.Given as goal

abbrev pub invariant-loop-n : goal.invariant-loop-n
invariant-loop-n l = l.list.items ≡ numbers l.registers 0 (take l.n l.signals)
