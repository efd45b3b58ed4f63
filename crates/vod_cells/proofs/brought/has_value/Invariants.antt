use Rattle.std.proofs.Common.{◌≡◌, false, length, map, drop}
use Rattle.vod_bits.specs.Value.{resize_bits}
use Rattle.vod_slot.specs.Store.{same_bits}
use Rattle.vod_cells.proofs.Bringing.{held}
use Rattle.vod_cells.proofs.brought.has_value.Given as goal

abbrev pub invariant-loop-i : goal.invariant-loop-i
invariant-loop-i l = same_bits (drop l.i (map (held l.fn.signals) l.fn.places)) (drop l.i (resize_bits (length l.fn.places) false l.value)) ≡ same_bits (map (held l.fn.signals) l.fn.places) (resize_bits (length l.fn.places) false l.value)
