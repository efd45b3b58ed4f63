use Rattle.vod_cells.proofs.Bitwise.{bits_kept}
use Rattle.vod_cells.proofs.tables.Tables.put_bits.Goals as goal

pub loop-left-preserved : goal.loop-left-preserved
loop-left-preserved c =
    bits_kept c.args.design.now.netlist c.args.signal c.args.low c.args.value c.loop-left.left c.from-place.result c.bit_in-bit.result c.loop-left.self c.put_bit.new.self _ c.loop-left-test.true c.from-place.ensures c.bit_in-bit.ensures c.put_bit.ensures c.loop-left.invariant.0 c.loop-left.invariant.1 c.loop-left.invariant.2
