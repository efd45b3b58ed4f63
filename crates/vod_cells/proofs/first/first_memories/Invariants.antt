use Rattle.std.proofs.Common.{◌≡◌, map, take}
use Rattle.vod_slot.specs.State.{first_words}
use Rattle.vod_cells.proofs.first.first_memories.Given as goal

abbrev pub invariant-loop-memory : goal.invariant-loop-memory
invariant-loop-memory l = l.lists.items ≡ map first_words (take l.memory-index l.memories)
