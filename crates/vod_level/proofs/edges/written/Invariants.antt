use Rattle.std.proofs.Common.{◌≡◌, take}
use Rattle.vod_level.specs.Bits.{written_from}
use Rattle.vod_level.proofs.edges.written.Given as goal

abbrev pub invariant-loop-driver : goal.invariant-loop-driver
invariant-loop-driver l = l.list.items ≡ written_from 0 (take l.driver l.drivers)
