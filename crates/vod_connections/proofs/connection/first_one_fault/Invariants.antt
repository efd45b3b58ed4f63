use Rattle.std.proofs.Common.{◌≡◌, drop, flat_map}
use Rattle.vod_places.specs.Places.{sooner, least}
use Rattle.vod_connections.specs.Connections.{one_faults}
use Rattle.vod_connections.proofs.connection.first_one_fault.Given as goal

abbrev pub invariant-loop-instance : goal.invariant-loop-instance
invariant-loop-instance l = sooner l.first (least (flat_map (one_faults l.place l.ports) (drop l.instance-index l.instances))) ≡ least (flat_map (one_faults l.place l.ports) l.instances)
