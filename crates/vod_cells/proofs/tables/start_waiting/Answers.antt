use Rattle.std.proofs.Common.{length, ap, ◌∙◌, ◌==◌, eq-eqb, arith}
use Rattle.vod_bits.specs.Value.{upper_bit}
use Rattle.vod_readers.specs.Readers.{nets_of}
use Rattle.vod_cells.proofs.Putting.{table_at, table_size, listed_in, begun_by, if_so}
use Rattle.vod_cells.proofs.tables.start_waiting.Goals as goal

pub of-requires : goal.of-requires
of-requires c = table_size nets_of c.args.design.now.netlist.blocks (length c.args.design.now.netlist.signals) c.args.signal c.args.listeners.now.blocks c.requires.listed.blocks c.requires.within

pub start_blocks-requires-clause-flags : goal.start_blocks-requires-clause-flags
start_blocks-requires-clause-flags c =
    listed_in nets_of c.args.design.now.netlist.blocks (length c.args.design.now.netlist.signals) c.args.signal (length c.args.started.now) c.args.listeners.now.blocks c.of.result.now c.requires.listed.blocks c.requires.within c.of.ensures c.requires.size

pub start_blocks-requires-clause-blocks : goal.start_blocks-requires-clause-blocks
start_blocks-requires-clause-blocks c =
    listed_in nets_of c.args.design.now.netlist.blocks (length c.args.design.now.netlist.signals) c.args.signal (length c.blocks-2.result.now) c.args.listeners.now.blocks c.of.result.now c.requires.listed.blocks c.requires.within c.of.ensures (ap length c.blocks-2.ensures)

pub returns : goal.returns
returns c =
    begun_by c.args.signal (upper_bit c.args.old) (upper_bit c.args.new) c.args.design.now.netlist.blocks c.blocks-2.result.now c.args.started.now c.start_blocks.new.started c.of.result.now c.blocks-2.ensures
    (table_at nets_of c.args.design.now.netlist.blocks (length c.args.design.now.netlist.signals) c.args.signal c.args.listeners.now.blocks c.of.result.now c.requires.listed.blocks c.requires.within c.of.ensures) c.start_blocks.ensures.raised
    ∙ if_so (c.args.place == 0) _ _ _ (eq-eqb c.args.place 0 (omega (arith, c.if-place-ne0.false)))
