use Rattle.std.proofs.Common.{sym, subst}
use Rattle.vod_slot.specs.Store.{ToWord}
use Rattle.vod_cells.specs.Stored.{IsStoredOf}
use Rattle.vod_cells.proofs.Bitwise.{stays}
use Rattle.vod_cells.proofs.cells.Cells.put_word.Goals as goal

pub invariant_of-self : goal.invariant_of-self
invariant_of-self c =
    (subst (IsStoredOf c.self.inside.design.now.netlist) (sym c.put_word.ensures) (stays c.self.inside.design.now.netlist (ToWord c.args.memory c.args.place c.args.word) c.self.inside.tables c.self.invariant.0), c.self.invariant.1)
