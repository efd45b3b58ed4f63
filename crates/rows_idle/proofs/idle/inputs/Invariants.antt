use Rattle.std.proofs.Common.{◌≡◌, map, take}
use Rattle.rows_idle.specs.Idle.{input_of}
use Rattle.rows_idle.proofs.idle.inputs.Given as goal

abbrev pub invariant-loop-net : goal.invariant-loop-net
invariant-loop-net l = l.list.items ≡ map input_of (take l.net-index l.nets)
