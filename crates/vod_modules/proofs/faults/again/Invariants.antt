use Rattle.std.proofs.Common.{◌≡◌, take}
use Rattle.vod_places.specs.Places.{least}
use Rattle.vod_modules.specs.Faults.{again_from}
use Rattle.vod_modules.proofs.faults.again.Given as goal

abbrev pub invariant-loop-number : goal.invariant-loop-number
invariant-loop-number l = l.least ≡ least (again_from 0 (take l.number l.heads))
