use Rattle.std.proofs.Common.{◌≡◌, take}
use Rattle.vod_modules.specs.Uses.{edges_of}
use Rattle.vod_modules.proofs.uses.edges_of.Given as goal

abbrev pub invariant-loop-found : goal.invariant-loop-found
invariant-loop-found l = l.edges.items ≡ edges_of l.count (take l.found-index l.uses)
