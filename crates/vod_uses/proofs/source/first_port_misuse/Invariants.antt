use Rattle.std.proofs.Common.{◌≡◌, drop, flat_map}
use Rattle.vod_places.specs.Places.{sooner, least}
use Rattle.vod_uses.specs.Visible.{seen}
use Rattle.vod_uses.specs.Items.{port_misuses}
use Rattle.vod_uses.proofs.source.first_port_misuse.Given as goal

abbrev pub invariant-loop-port : goal.invariant-loop-port
invariant-loop-port l = sooner l.first (least (flat_map (port_misuses (seen l.scope)) (drop l.port-index l.ports))) ≡ least (flat_map (port_misuses (seen l.scope)) l.ports)
