use Rattle.vod_cells.proofs.Putting.{word_put}
use Rattle.vod_cells.proofs.tables.Tables.put_word.Goals as goal

pub returns : goal.returns
returns c =
    word_put c.args.design.now.netlist c.args.memory c.args.place c.args.word c.index.result.now c.index_mut.result.now c.set_word.new.words c.args.self.now _ c.wake_memory_readers.new.wake c.changes_word-changed.result
    c.self.view_is c.requires.shaped c.requires.within c.index.ensures c.index_mut.ensures.value c.set_word.ensures c.changes_word-changed.ensures c.wake_memory_readers.ensures
