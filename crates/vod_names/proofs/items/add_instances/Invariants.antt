use Rattle.std.proofs.Common.{◌≡◌, ◌++◌, drop, map}
use Rattle.vod_names.specs.Lists.{instance_declaration}
use Rattle.vod_names.proofs.items.add_instances.Given as goal

abbrev pub invariant-loop-instance : goal.invariant-loop-instance
invariant-loop-instance l = l.names ++ map instance_declaration (drop l.instance-index l.instances) ≡ l.fn.names ++ map instance_declaration l.instances
