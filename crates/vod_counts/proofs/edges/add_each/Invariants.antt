use Rattle.std.proofs.Common.{◌≡◌, ◌++◌, drop, option_to_list}
use Rattle.vod_counts.specs.Edges.{each_instance}
use Rattle.vod_counts.proofs.edges.add_each.Given as goal

abbrev pub invariant-loop-instance : goal.invariant-loop-instance
invariant-loop-instance l = l.edges.items ++ each_instance (option_to_list l.edge) (drop l._instance-index l.instances) ≡ l.initial.edges.items ++ each_instance (option_to_list l.edge) l.instances
