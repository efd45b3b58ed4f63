use Rattle.std.proofs.Common.{◌≡◌, ◌++◌, drop, flat_map}
use Rattle.vod_design.specs.Reads.{reads}
use Rattle.vod_readers.specs.Readers.{read_signal}
use Rattle.vod_readers.proofs.signals_read.Given as goal

abbrev pub invariant-loop-read : goal.invariant-loop-read
invariant-loop-read l = l.signals.items ++ flat_map read_signal (drop l.read-index l.read-items) ≡ flat_map read_signal (reads l.driver.value)
