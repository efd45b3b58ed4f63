use Rattle.std.proofs.Common.{◌≡◌, take, map}
use Rattle.vod_connections.specs.Connections.{connection_name}
use Rattle.vod_connections.proofs.connection.connection_names.Given as goal

abbrev pub invariant-loop-connection : goal.invariant-loop-connection
invariant-loop-connection l = l.names ≡ map connection_name (take l.connection-index l.named)
