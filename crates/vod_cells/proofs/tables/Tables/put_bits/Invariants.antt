use Rattle.std.proofs.Common.{◌≡◌, ◌-◌, ◌≤◌, length, drop}
use Rattle.vod_slot.specs.Store.{bits_written}
use Rattle.vod_cells.specs.Stored.{IsStoredOf, put_all_in}
use Rattle.vod_cells.proofs.tables.Tables.put_bits.Given as goal

abbrev pub invariant-loop-left : goal.invariant-loop-left
invariant-loop-left l =
    (l.left ≤ length l.value) × IsStoredOf l.fn.design.netlist l.self × (put_all_in l.fn.design.netlist (bits_written l.signal l.low (drop (length l.value - l.left) l.value)) l.self ≡ put_all_in l.fn.design.netlist (bits_written l.signal l.low l.value) l.fn.self)

abbrev pub decreases-loop-left : goal.decreases-loop-left
decreases-loop-left l = l.left
