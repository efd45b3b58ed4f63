use Rattle.std.proofs.Common.{◌≡◌, ◌++◌, drop, flat_map}
use Rattle.vod_modules.specs.Names.{number_in, module_in}
use Rattle.vod_counts.specs.Edges.{module_edges}
use Rattle.vod_counts.proofs.edges.instance_edges.Given as goal

abbrev pub invariant-loop-part : goal.invariant-loop-part
invariant-loop-part l = l.edges.items ++ flat_map (λ x. module_edges (number_in l.fn.names.numbers.entries) l.count (module_in x)) (drop l.part-index l.parts) ≡ flat_map (λ x. module_edges (number_in l.fn.names.numbers.entries) l.count (module_in x)) l.parts
