use Rattle.std.proofs.Common.{◌≡◌, drop, flat_map}
use Rattle.vod_places.specs.Places.{sooner, least}
use Rattle.vod_connections.specs.Interfaces.{found}
use Rattle.vod_connections.specs.Connections.{part_faults}
use Rattle.vod_connections.proofs.source.first_part_fault.Given as goal

abbrev pub invariant-loop-part : goal.invariant-loop-part
invariant-loop-part l = sooner l.first (least (flat_map (part_faults (found l.interfaces.names l.interfaces.list.items)) (drop l.part-index l.parts))) ≡ least (flat_map (part_faults (found l.interfaces.names l.interfaces.list.items)) l.parts)
