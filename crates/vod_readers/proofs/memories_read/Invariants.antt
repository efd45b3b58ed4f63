use Rattle.std.proofs.Common.{◌≡◌, ◌++◌, drop, flat_map}
use Rattle.vod_design.specs.Reads.{reads}
use Rattle.vod_readers.specs.Readers.{read_memory}
use Rattle.vod_readers.proofs.memories_read.Given as goal

abbrev pub invariant-loop-read : goal.invariant-loop-read
invariant-loop-read l = l.memories.items ++ flat_map read_memory (drop l.read-index l.read-items) ≡ flat_map read_memory (reads l.driver.value)
