use Rattle.std.proofs.Common.{refl}
use Rattle.vod_cells.proofs.Bitwise.{places_kept}
use Rattle.vod_cells.proofs.tables.Tables.put_places.Goals as goal

pub loop-i-preserved : goal.loop-i-preserved
loop-i-preserved c =
    places_kept c.args.design.now.netlist c.args.places.now c.args.value c.loop-i.i _ _ c.from.result c.bit_or_zero-bit.result c.loop-i.self c.put_bit.new.self _ c.loop-i-test.true refl c.bit_or_zero-bit.ensures c.from.ensures c.put_bit.ensures c.loop-i.invariant.0 c.loop-i.invariant.1
