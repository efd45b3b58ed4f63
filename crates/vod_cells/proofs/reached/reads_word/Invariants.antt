use Rattle.std.proofs.Common.{◌≡◌, drop}
use Rattle.std.specs.List.{list_any}
use Rattle.vod_slot.specs.Store.{is_word_read}
use Rattle.vod_cells.proofs.reached.reads_word.Given as goal

abbrev pub invariant-loop-read : goal.invariant-loop-read
invariant-loop-read l = list_any (is_word_read l.fn.memory l.fn.place) (drop l.read-index l.reads) ≡ list_any (is_word_read l.fn.memory l.fn.place) l.fn.reads
