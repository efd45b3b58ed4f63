use Rattle.std.proofs.Common.{length, ap, ◌∙◌}
use Rattle.std.proofs.lemmas.List.{length-map}
use Rattle.vod_design.specs.declared.parts.Driver.{Driver}
use Rattle.vod_design.specs.Feeds.{is_read}
use Rattle.vod_design.specs.Reads.{reads}
use Rattle.vod_readers.specs.Readers.{read_signal, signals_of}
use Rattle.vod_cells.proofs.Putting.{table_at, table_size, listed_in, bit_reader, woken, if_so}
use Rattle.vod_cells.proofs.tables.wake_readers.Goals as goal

pub of-requires : goal.of-requires
of-requires c = table_size signals_of c.args.design.now.netlist.drivers (length c.args.design.now.netlist.signals) c.args.signal c.args.listeners.now.signals c.requires.listed.signals c.requires.within

pub wake_for_bit-requires-clause-flags : goal.wake_for_bit-requires-clause-flags
wake_for_bit-requires-clause-flags c =
    listed_in signals_of c.args.design.now.netlist.drivers (length c.args.design.now.netlist.signals) c.args.signal (length c.args.wake.now) c.args.listeners.now.signals c.of.result.now c.requires.listed.signals c.requires.within c.of.ensures c.requires.size

pub wake_for_bit-requires-clause-reads : goal.wake_for_bit-requires-clause-reads
wake_for_bit-requires-clause-reads c =
    listed_in signals_of c.args.design.now.netlist.drivers (length c.args.design.now.netlist.signals) c.args.signal (length c.as_slice.result.now) c.args.listeners.now.signals c.of.result.now c.requires.listed.signals c.requires.within c.of.ensures
    (ap length (c.as_slice.ensures.value ∙ c.requires.listed.reads) ∙ length-map c.args.design.now.netlist.drivers (λ (a : Driver). reads a.value))

pub returns : goal.returns
returns c =
    woken (is_read (record { signal = c.args.signal; bit = c.args.place })) read_signal c.args.signal c.args.design.now.netlist.drivers c.as_slice.result.now c.args.wake.now c.wake_for_bit.new.wake c.of.result.now (bit_reader c.args.signal c.args.place) (c.as_slice.ensures.value ∙ c.requires.listed.reads)
    (table_at signals_of c.args.design.now.netlist.drivers (length c.args.design.now.netlist.signals) c.args.signal c.args.listeners.now.signals c.of.result.now c.requires.listed.signals c.requires.within c.of.ensures) c.wake_for_bit.ensures.raised
    ∙ if_so c.args.changed _ _ _ c.if-not-changed.false
