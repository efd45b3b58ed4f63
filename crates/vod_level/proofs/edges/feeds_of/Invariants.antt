use Rattle.std.proofs.Common.{◌≡◌, ℕ, take}
use Rattle.vod_level.specs.Lists.{has_feed}
use Rattle.vod_level.specs.Bits.{feeds_from}
use Rattle.vod_level.proofs.edges.feeds_of.Given as goal

abbrev pub invariant-loop-reader : goal.invariant-loop-reader
invariant-loop-reader l = (p q : ℕ) → has_feed l.list.items p q ≡ feeds_from l.writers 0 (take l.reader l.drivers) p q
