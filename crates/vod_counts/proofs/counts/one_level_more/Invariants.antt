use Rattle.std.proofs.Common.{◌≡◌, ◌<◌, ◌+◌, ℕ, length, drop, slice_index}
use Rattle.vod_counts.specs.Counts.{own, made, capped}
use Rattle.vod_counts.proofs.counts.one_level_more.Given as goal

abbrev pub invariant-loop-edge : goal.invariant-loop-edge
invariant-loop-edge l = (length l.next.items ≡ l.count) × ((k : ℕ) → k < l.count → capped (slice_index l.next.items k + made (slice_index l.table) (drop l.edge-index l.edges) k) ≡ capped (own l.fn.top k + made (slice_index l.table) l.edges k))
