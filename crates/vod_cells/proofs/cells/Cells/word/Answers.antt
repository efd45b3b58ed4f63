use Rattle.std.proofs.Common.{◌<◌, refl, sym, subst}
use Rattle.vod_design.specs.Netlist.{word_count}
use Rattle.vod_cells.specs.Stored.{Cells}
use Rattle.vod_cells.proofs.Putting.{words_stored}
use Rattle.vod_cells.proofs.cells.Cells.word.Goals as goal

pub word-requires-clause-memory : goal.word-requires-clause-memory
word-requires-clause-memory c = (words_stored c.self.inside.design.now.netlist c.self.inside.tables _ c.args.memory c.args.place refl c.self.invariant.0 (subst (λ (s : Cells). c.args.place < word_count s.design c.args.memory) (sym c.self.view_is) c.requires)).0

pub word-requires-clause-place : goal.word-requires-clause-place
word-requires-clause-place c = (words_stored c.self.inside.design.now.netlist c.self.inside.tables _ c.args.memory c.args.place refl c.self.invariant.0 (subst (λ (s : Cells). c.args.place < word_count s.design c.args.memory) (sym c.self.view_is) c.requires)).1
