use Rattle.std.proofs.Common.{◌≡◌, ◌++◌, drop, map}
use Rattle.vod_names.specs.Lists.{each_named, parameter_ident}
use Rattle.vod_names.specs.Entries.{plain}
use Rattle.vod_names.specs.declared.entry.Kind.TheVariants as kind
use Rattle.vod_names.proofs.header.add_parameter_ports.Given as goal

abbrev pub invariant-loop-port : goal.invariant-loop-port
invariant-loop-port l = l.names ++ each_named (plain kind.Parameter) (map parameter_ident (drop l.port-index l.ports)) ≡ l.fn.names ++ each_named (plain kind.Parameter) (map parameter_ident l.ports)
