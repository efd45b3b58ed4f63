use Rattle.std.proofs.Common.{◌≡◌, ◌+◌, length, drop}
use Rattle.vod_design.specs.Image.{word_widths}
use Rattle.vod_design.proofs.image.word_count.Given as goal

abbrev pub invariant-loop-memory : goal.invariant-loop-memory
invariant-loop-memory l = l.count + length (word_widths (drop l.memory-index l.memories)) ≡ length (word_widths l.fn.memories)
