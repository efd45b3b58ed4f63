use Rattle.std.proofs.Common.{◌≡◌, drop, flat_map}
use Rattle.vod_places.specs.Places.{sooner, least}
use Rattle.vod_uses.specs.Visible.{seen}
use Rattle.vod_uses.specs.Items.{item_misuses}
use Rattle.vod_uses.proofs.items.first_item_misuse.Given as goal

abbrev pub invariant-loop-item : goal.invariant-loop-item
invariant-loop-item l = sooner l.first (least (flat_map (item_misuses (seen l.scope)) (drop l.item-index l.items))) ≡ least (flat_map (item_misuses (seen l.scope)) l.items)
