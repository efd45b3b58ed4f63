use Rattle.std.proofs.Common.{◌≡◌, take}
use Rattle.vod_places.specs.Places.{least}
use Rattle.vod_modules.specs.Faults.{bad_uses}
use Rattle.vod_modules.proofs.faults.bad.Given as goal

abbrev pub invariant-loop-found : goal.invariant-loop-found
invariant-loop-found l = l.least ≡ least (bad_uses l.components (take l.found-index l.uses))
