use Rattle.std.proofs.Common.{◌≡◌, ℕ, ◌&&◌, ◌||◌, ◌==◌, take}
use Rattle.std.specs.List.{list_any}
use Rattle.vod_level.specs.Lists.{has_feed}
use Rattle.vod_level.specs.Bits.{writes_read}
use Rattle.vod_level.proofs.edges.add_all.Given as goal

abbrev pub invariant-loop-read : goal.invariant-loop-read
invariant-loop-read l = (p q : ℕ) → has_feed l.list.items p q ≡ (has_feed l.fn.list.items p q || (list_any (writes_read l.writers p) (take l.read-index l.reads) && (l.reader == q)))
