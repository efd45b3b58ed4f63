use Rattle.std.proofs.Common.{length, sym, subst, false}
use Rattle.vod_bits.specs.Value.{resize_bits}
use Rattle.vod_slot.specs.Store.{places_written}
use Rattle.vod_cells.specs.Stored.{IsStoredOf}
use Rattle.vod_cells.proofs.Bitwise.{all_stay}
use Rattle.vod_cells.proofs.cells.Cells.put_places.Goals as goal

pub invariant_of-self : goal.invariant_of-self
invariant_of-self c =
    (subst (IsStoredOf c.self.inside.design.now.netlist) (sym c.put_places.ensures) (all_stay c.self.inside.design.now.netlist (places_written c.args.places.now (resize_bits (length c.args.places.now) false c.args.value)) c.self.inside.tables c.self.invariant.0), c.self.invariant.1)
