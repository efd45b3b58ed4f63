use Rattle.std.proofs.Common.{sym, subst}
use Rattle.vod_cells.specs.Stored.{IsStoredOf}
use Rattle.vod_cells.proofs.Opening.{stored_fits}
use Rattle.vod_cells.proofs.cells.Cells.start.Goals as goal

pub invariant_of-result : goal.invariant_of-result
invariant_of-result c =
    (subst (IsStoredOf c.args.design.now.netlist) (sym c.in_ok-tables.ensures) (stored_fits c.args.design.now.netlist), c.in_ok-listeners.ensures)
