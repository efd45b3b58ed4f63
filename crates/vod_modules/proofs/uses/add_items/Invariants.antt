use Rattle.std.proofs.Common.{◌≡◌, ◌++◌, take}
use Rattle.vod_modules.specs.Names.{number_in}
use Rattle.vod_modules.specs.Uses.{item_uses}
use Rattle.vod_modules.proofs.uses.add_items.Given as goal

abbrev pub invariant-loop-item : goal.invariant-loop-item
invariant-loop-item l = l.uses.items ≡ l.initial.uses.items ++ item_uses (number_in l.fn.names.numbers.entries) l.user (take l.item-index l.fn.parent.items)
