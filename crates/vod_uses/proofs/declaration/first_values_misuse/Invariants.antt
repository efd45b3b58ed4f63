use Rattle.std.proofs.Common.{◌≡◌, drop, flat_map}
use Rattle.vod_places.specs.Places.{sooner, least}
use Rattle.vod_uses.specs.Visible.{seen}
use Rattle.vod_uses.specs.Items.{value_misuses}
use Rattle.vod_uses.proofs.declaration.first_values_misuse.Given as goal

abbrev pub invariant-loop-value : goal.invariant-loop-value
invariant-loop-value l = sooner l.first (least (flat_map (value_misuses (seen l.scope)) (drop l.value-index l.values))) ≡ least (flat_map (value_misuses (seen l.scope)) l.values)
