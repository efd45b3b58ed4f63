use Rattle.std.proofs.Common.{◌≡◌, ◌*◌, ◌<◌, ◌≤◌, ◌^◌, ℕ, length, slice_index}
use Rattle.vod_thin_queue.specs.Flags.{AreSumsBut}
use Rattle.vod_thin_queue.proofs.flags.recount.Given as goal

abbrev pub invariant-loop-node : goal.invariant-loop-node
invariant-loop-node l = record {
  size : length l.counts ≡ 2 * l.leaves;
  within : l.node < l.leaves;
  small : (n : ℕ) → 1 ≤ n → n ≤ l.node → slice_index l.counts n ≤ 2 ^ 26;
  same : (n : ℕ) → l.leaves ≤ n → slice_index l.counts n ≡ slice_index l.initial.counts n;
  sums : AreSumsBut l.node l.added l.leaves l.counts;
}

abbrev pub decreases-loop-node : goal.decreases-loop-node
decreases-loop-node l = l.node
