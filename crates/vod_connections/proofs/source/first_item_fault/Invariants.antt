use Rattle.std.proofs.Common.{◌≡◌, drop, flat_map}
use Rattle.vod_places.specs.Places.{sooner, least}
use Rattle.vod_connections.specs.Interfaces.{found}
use Rattle.vod_connections.specs.Connections.{item_faults}
use Rattle.vod_connections.proofs.source.first_item_fault.Given as goal

abbrev pub invariant-loop-item : goal.invariant-loop-item
invariant-loop-item l = sooner l.first (least (flat_map (item_faults (found l.interfaces.names l.interfaces.list.items)) (drop l.item-index l.items))) ≡ least (flat_map (item_faults (found l.interfaces.names l.interfaces.list.items)) l.items)
