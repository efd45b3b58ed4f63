use Rattle.std.proofs.Common.{length, ap, ◌∙◌}
use Rattle.std.proofs.lemmas.List.{length-map}
use Rattle.vod_design.specs.declared.parts.Driver.{Driver}
use Rattle.vod_slot.specs.Store.{is_word_read}
use Rattle.vod_design.specs.Reads.{reads}
use Rattle.vod_readers.specs.Readers.{read_memory, memories_of}
use Rattle.vod_cells.proofs.Putting.{table_at, table_size, listed_in, word_reader, woken, if_so}
use Rattle.vod_cells.proofs.tables.wake_memory_readers.Goals as goal

pub of-requires : goal.of-requires
of-requires c = table_size memories_of c.args.design.now.netlist.drivers (length c.args.design.now.netlist.memories) c.args.memory c.args.listeners.now.memories c.requires.listed.memories c.requires.within

pub wake_for_word-requires-clause-flags : goal.wake_for_word-requires-clause-flags
wake_for_word-requires-clause-flags c =
    listed_in memories_of c.args.design.now.netlist.drivers (length c.args.design.now.netlist.memories) c.args.memory (length c.args.wake.now) c.args.listeners.now.memories c.of.result.now c.requires.listed.memories c.requires.within c.of.ensures c.requires.size

pub wake_for_word-requires-clause-reads : goal.wake_for_word-requires-clause-reads
wake_for_word-requires-clause-reads c =
    listed_in memories_of c.args.design.now.netlist.drivers (length c.args.design.now.netlist.memories) c.args.memory (length c.as_slice.result.now) c.args.listeners.now.memories c.of.result.now c.requires.listed.memories c.requires.within c.of.ensures
    (ap length (c.as_slice.ensures.value ∙ c.requires.listed.reads) ∙ length-map c.args.design.now.netlist.drivers (λ (a : Driver). reads a.value))

pub returns : goal.returns
returns c =
    woken (is_word_read c.args.memory c.args.place) read_memory c.args.memory c.args.design.now.netlist.drivers c.as_slice.result.now c.args.wake.now c.wake_for_word.new.wake c.of.result.now (word_reader c.args.memory c.args.place) (c.as_slice.ensures.value ∙ c.requires.listed.reads)
    (table_at memories_of c.args.design.now.netlist.drivers (length c.args.design.now.netlist.memories) c.args.memory c.args.listeners.now.memories c.of.result.now c.requires.listed.memories c.requires.within c.of.ensures) c.wake_for_word.ensures.raised
    ∙ if_so c.args.changed _ _ _ c.if-not-changed.false
