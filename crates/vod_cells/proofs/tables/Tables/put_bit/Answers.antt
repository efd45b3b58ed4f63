use Rattle.vod_cells.proofs.Putting.{bit_put}
use Rattle.vod_cells.proofs.tables.Tables.put_bit.Goals as goal

pub returns : goal.returns
returns c =
    bit_put c.args.design.now.netlist c.args.signal c.args.place c.args.bit c.index-value.result.now c.bit_in-old.result c.replaced.result c.args.self.now _ c.wake_readers.new.wake c.start_waiting.new.started c.differ.result
    c.self.view_is c.requires.shaped c.requires.one c.requires.within c.index-value.ensures c.bit_in-old.ensures c.differ.ensures c.replaced.ensures c.wake_readers.ensures c.start_waiting.ensures
