use Rattle.std.proofs.Common.{◌≡◌, ◌+◌, drop, slice_index}
use Rattle.vod_counts.specs.Counts.{total, capped}
use Rattle.vod_counts.proofs.counts.total.Given as goal

abbrev pub invariant-loop-number : goal.invariant-loop-number
invariant-loop-number l = capped (l.sum + total (slice_index l.table) l.number (drop l.number l.weights)) ≡ capped (total (slice_index l.table) 0 l.weights)
