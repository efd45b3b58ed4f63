use Rattle.std.proofs.Common.{◌≡◌, take, flat_map}
use Rattle.vod_uses.specs.Calls.{item_functions}
use Rattle.vod_uses.proofs.functions.functions_of.Given as goal

abbrev pub invariant-loop-item : goal.invariant-loop-item
invariant-loop-item l = l.functions ≡ flat_map item_functions (take l.item-index l.items)
