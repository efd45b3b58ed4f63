use Rattle.std.proofs.Common.{◌≡◌, drop, flat_map}
use Rattle.vod_places.specs.Places.{sooner, least}
use Rattle.vod_uses.specs.Items.{source_misuses}
use Rattle.vod_uses.proofs.source.first_source_misuse.Given as goal

abbrev pub invariant-loop-item : goal.invariant-loop-item
invariant-loop-item l = sooner l.first (least (flat_map source_misuses (drop l.item-index l.items))) ≡ least (flat_map source_misuses l.items)
