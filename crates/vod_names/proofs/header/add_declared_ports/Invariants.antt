use Rattle.std.proofs.Common.{◌≡◌, ◌++◌, drop}
use Rattle.vod_names.specs.Lists.{declared_ports}
use Rattle.vod_names.specs.Entries.{plain}
use Rattle.vod_names.specs.declared.entry.Kind.TheVariants as kind
use Rattle.vod_names.proofs.header.add_declared_ports.Given as goal

abbrev pub invariant-loop-port : goal.invariant-loop-port
invariant-loop-port l = l.names ++ declared_ports l.before (drop l.port-index l.ports) ≡ l.fn.names ++ declared_ports (plain kind.Input) l.ports
