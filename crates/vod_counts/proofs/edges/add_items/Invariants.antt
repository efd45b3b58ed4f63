use Rattle.std.proofs.Common.{◌≡◌, ◌++◌, drop, flat_map}
use Rattle.vod_modules.specs.Names.{number_in}
use Rattle.vod_counts.specs.Edges.{item_edges}
use Rattle.vod_counts.proofs.edges.add_items.Given as goal

abbrev pub invariant-loop-item : goal.invariant-loop-item
invariant-loop-item l = l.edges.items ++ flat_map (item_edges (number_in l.fn.names.numbers.entries) l.count l.user) (drop l.item-index l.items) ≡ l.initial.edges.items ++ flat_map (item_edges (number_in l.fn.names.numbers.entries) l.count l.user) l.items
