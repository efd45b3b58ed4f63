use Rattle.std.proofs.Common.{◌≡◌, ◌&&◌, drop}
use Rattle.vod_design.specs.Image.{word_widths, are_below}
use Rattle.vod_design.proofs.image.words_fit.Given as goal

abbrev pub invariant-loop-memory : goal.invariant-loop-memory
invariant-loop-memory l = (l.rest.fit && are_below l.rest.numbers.now (word_widths (drop l.memory-index l.memories))) ≡ are_below l.fn.numbers (word_widths l.fn.memories)
