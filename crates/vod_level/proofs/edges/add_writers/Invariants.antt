use Rattle.std.proofs.Common.{◌≡◌, ℕ, ◌&&◌, ◌||◌, ◌==◌, take}
use Rattle.vod_level.specs.Lists.{has, has_feed}
use Rattle.vod_level.proofs.edges.add_writers.Given as goal

abbrev pub invariant-loop-writer : goal.invariant-loop-writer
invariant-loop-writer l = (p q : ℕ) → has_feed l.list.items p q ≡ (has_feed l.fn.list.items p q || (has (take l.writer-index l.writers) p && (l.reader == q)))
