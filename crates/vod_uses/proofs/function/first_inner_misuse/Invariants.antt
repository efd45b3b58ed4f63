use Rattle.std.proofs.Common.{◌≡◌, drop, flat_map}
use Rattle.vod_places.specs.Places.{sooner, least}
use Rattle.vod_uses.specs.Visible.{seen}
use Rattle.vod_uses.specs.Items.{inner_misuses}
use Rattle.vod_uses.proofs.function.first_inner_misuse.Given as goal

abbrev pub invariant-loop-declaration : goal.invariant-loop-declaration
invariant-loop-declaration l = sooner l.first (least (flat_map (inner_misuses (seen l.scope)) (drop l.declaration-index l.declarations))) ≡ least (flat_map (inner_misuses (seen l.scope)) l.declarations)
