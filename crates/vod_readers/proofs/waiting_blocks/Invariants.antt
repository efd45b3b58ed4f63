use Rattle.std.proofs.Common.{◌≡◌, [], drop, replicate}
use Rattle.vod_readers.specs.Collected.{feeds_all}
use Rattle.vod_readers.specs.Readers.{nets_of}
use Rattle.vod_readers.proofs.waiting_blocks.Given as goal

abbrev pub invariant-loop-k : goal.invariant-loop-k
invariant-loop-k l = feeds_all nets_of l.k l.collected.marks.items l.collected.feeds.items (drop l.k l.blocks) ≡ feeds_all nets_of 0 (replicate l.fn.signals 0) [] l.fn.blocks
