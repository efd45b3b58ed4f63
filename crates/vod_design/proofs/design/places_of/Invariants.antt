use Rattle.std.proofs.Common.{◌≡◌, ◌<◌, length, ℕ, slice_index_or}
use Rattle.vod_design.proofs.design.places_of.Given as goal

abbrev pub invariant-loop-place : goal.invariant-loop-place
invariant-loop-place l = (length l.ranks.items ≡ length l.fn.ranked)
    × ((k : ℕ) → k < l.place → slice_index_or l.ranks.items (slice_index_or l.fn.ranked k 0) 0 ≡ k)
