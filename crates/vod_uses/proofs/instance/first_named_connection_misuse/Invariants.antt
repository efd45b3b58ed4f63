use Rattle.std.proofs.Common.{◌≡◌, drop, flat_map}
use Rattle.vod_places.specs.Places.{sooner, least}
use Rattle.vod_uses.specs.Visible.{seen}
use Rattle.vod_uses.specs.Items.{named_connection_misuses}
use Rattle.vod_uses.proofs.instance.first_named_connection_misuse.Given as goal

abbrev pub invariant-loop-connection : goal.invariant-loop-connection
invariant-loop-connection l = sooner l.first (least (flat_map (named_connection_misuses (seen l.scope)) (drop l.connection-index l.named))) ≡ least (flat_map (named_connection_misuses (seen l.scope)) l.named)
