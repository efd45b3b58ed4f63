use Rattle.std.proofs.Common.{sym, subst}
use Rattle.vod_slot.specs.Store.{bits_written}
use Rattle.vod_cells.specs.Stored.{IsStoredOf}
use Rattle.vod_cells.proofs.Bitwise.{all_stay}
use Rattle.vod_cells.proofs.cells.Cells.put_bits.Goals as goal

pub invariant_of-self : goal.invariant_of-self
invariant_of-self c =
    (subst (IsStoredOf c.self.inside.design.now.netlist) (sym c.put_bits.ensures) (all_stay c.self.inside.design.now.netlist (bits_written c.args.signal c.args.low c.args.value) c.self.inside.tables c.self.invariant.0), c.self.invariant.1)
