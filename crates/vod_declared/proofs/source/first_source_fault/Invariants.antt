use Rattle.std.proofs.Common.{◌≡◌, drop, flat_map}
use Rattle.vod_places.specs.Places.{sooner, least}
use Rattle.vod_declared.specs.Faults.{source_faults}
use Rattle.vod_declared.proofs.source.first_source_fault.Given as goal

abbrev pub invariant-loop-item : goal.invariant-loop-item
invariant-loop-item l = sooner l.first (least (flat_map source_faults (drop l.item-index l.items))) ≡ least (flat_map source_faults l.items)
