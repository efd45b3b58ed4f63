use Rattle.std.proofs.Common.{◌≡◌, drop, flat_map}
use Rattle.vod_places.specs.Places.{sooner, least}
use Rattle.vod_declared.specs.Faults.{item_faults}
use Rattle.vod_declared.proofs.function.first_item_fault.Given as goal

abbrev pub invariant-loop-item : goal.invariant-loop-item
invariant-loop-item l = sooner l.first (least (flat_map item_faults (drop l.item-index l.items))) ≡ least (flat_map item_faults l.items)
