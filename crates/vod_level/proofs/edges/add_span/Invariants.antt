use Rattle.std.proofs.Common.{◌≡◌, ℕ, ◌-◌, ◌≤◌, max, ◌&&◌, ◌||◌, ◌==◌}
use Rattle.vod_level.specs.Lists.{has_feed}
use Rattle.vod_level.specs.Bits.{writes_among}
use Rattle.vod_level.proofs.edges.add_span.Given as goal

abbrev pub invariant-loop-bit : goal.invariant-loop-bit
invariant-loop-bit l = record {
  within : l.bit ≤ max l.fn.span.first l.fn.span.end;
  feeds : (p q : ℕ) → has_feed l.list.items p q ≡ (has_feed l.fn.list.items p q || (writes_among l.writers l.fn.span.first (l.bit - l.fn.span.first) p && (l.reader == q)));
}
