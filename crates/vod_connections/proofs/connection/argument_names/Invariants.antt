use Rattle.std.proofs.Common.{◌≡◌, take, map}
use Rattle.vod_connections.specs.Connections.{argument_name}
use Rattle.vod_connections.proofs.connection.argument_names.Given as goal

abbrev pub invariant-loop-argument : goal.invariant-loop-argument
invariant-loop-argument l = l.names ≡ map argument_name (take l.argument-index l.named)
