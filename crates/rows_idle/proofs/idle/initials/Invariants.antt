use Rattle.std.proofs.Common.{◌≡◌, map, take}
use Rattle.rows_idle.specs.Idle.{initial_of}
use Rattle.rows_idle.proofs.idle.initials.Given as goal

abbrev pub invariant-loop-register : goal.invariant-loop-register
invariant-loop-register l = l.list.items ≡ map (initial_of l.signals) (take l.register-index l.registers)
