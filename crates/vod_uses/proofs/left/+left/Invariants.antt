use Rattle.std.proofs.Common.{◌≡◌, drop, flat_map}
use Rattle.vod_places.specs.Places.{sooner, least}
use Rattle.vod_uses.specs.Visible.{seen}
use Rattle.vod_uses.specs.Uses.{left_misuses}
use Rattle.vod_uses.proofs.left.+left.Given as goal

abbrev pub invariant-first_left_misuse_of-loop-left : goal.invariant-first_left_misuse_of-loop-left
invariant-first_left_misuse_of-loop-left l = sooner l.first (least (flat_map (left_misuses (seen l.scope)) (drop l.left-index l.lefts))) ≡ least (flat_map (left_misuses (seen l.scope)) l.lefts)
