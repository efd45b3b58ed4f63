use Rattle.std.proofs.Common.{◌≡◌, ℕ, ◌<◌, length, get_or}
use Rattle.vod_components.proofs.checks.are_firsts.Given as goal

abbrev pub invariant-loop-number : goal.invariant-loop-number
invariant-loop-number l = (k : ℕ) → k < l.number → (get_or l.nodes k 0 < length l.numbers) × (get_or l.numbers (get_or l.nodes k 0) 0 ≡ k)
