use Rattle.std.proofs.Common.{◌≡◌, drop, flat_map}
use Rattle.vod_places.specs.Places.{sooner, least}
use Rattle.vod_uses.specs.Visible.{seen}
use Rattle.vod_uses.specs.Uses.{misuses}
use Rattle.vod_uses.proofs.expr.+misuse.Given as goal

abbrev pub invariant-first_misuse_of-loop-e : goal.invariant-first_misuse_of-loop-e
invariant-first_misuse_of-loop-e l = sooner l.first (least (flat_map (misuses (seen l.scope)) (drop l.e-index l.exprs))) ≡ least (flat_map (misuses (seen l.scope)) l.exprs)
