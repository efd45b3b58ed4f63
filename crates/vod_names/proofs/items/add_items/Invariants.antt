use Rattle.std.proofs.Common.{◌≡◌, ◌++◌, drop, flat_map}
use Rattle.vod_names.specs.Lists.{item_declarations}
use Rattle.vod_names.proofs.items.add_items.Given as goal

abbrev pub invariant-loop-item : goal.invariant-loop-item
invariant-loop-item l = l.names ++ flat_map item_declarations (drop l.item-index l.items) ≡ l.fn.names ++ flat_map item_declarations l.items
