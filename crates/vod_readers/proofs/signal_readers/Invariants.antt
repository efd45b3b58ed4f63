use Rattle.std.proofs.Common.{◌≡◌, [], drop, replicate}
use Rattle.vod_readers.specs.Collected.{feeds_all}
use Rattle.vod_readers.specs.Readers.{signals_of}
use Rattle.vod_readers.proofs.signal_readers.Given as goal

abbrev pub invariant-loop-k : goal.invariant-loop-k
invariant-loop-k l = feeds_all signals_of l.k l.collected.marks.items l.collected.feeds.items (drop l.k l.drivers) ≡ feeds_all signals_of 0 (replicate l.fn.signals 0) [] l.fn.drivers
