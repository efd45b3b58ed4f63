use Rattle.std.proofs.Common.{◌≡◌, false, length, drop}
use Rattle.vod_bits.specs.Value.{resize_bits}
use Rattle.vod_slot.specs.Store.{places_written}
use Rattle.vod_cells.specs.Stored.{IsStoredOf, put_all_in}
use Rattle.vod_cells.proofs.tables.Tables.put_places.Given as goal

abbrev pub invariant-loop-i : goal.invariant-loop-i
invariant-loop-i l =
    IsStoredOf l.fn.design.netlist l.self × (put_all_in l.fn.design.netlist (places_written (drop l.i l.fn.places) (drop l.i (resize_bits (length l.fn.places) false l.value))) l.self ≡ put_all_in l.fn.design.netlist (places_written l.fn.places (resize_bits (length l.fn.places) false l.value)) l.fn.self)
