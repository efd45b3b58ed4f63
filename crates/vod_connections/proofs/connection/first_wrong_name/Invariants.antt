use Rattle.std.proofs.Common.{◌≡◌, drop, map}
use Rattle.vod_places.specs.Places.{sooner, least, each_after}
use Rattle.vod_names.specs.Entries.{shown}
use Rattle.vod_connections.specs.Connections.{wrong_name, wrong_names}
use Rattle.vod_connections.proofs.connection.first_wrong_name.Given as goal

abbrev pub invariant-loop-entry : goal.invariant-loop-entry
invariant-loop-entry l = sooner l.first (least (each_after (wrong_name l.names) l.seen (map shown (drop l.entry-index l.given)))) ≡ least (wrong_names l.names (map shown l.given))
