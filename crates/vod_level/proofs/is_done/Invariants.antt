use Rattle.std.proofs.Common.{◌≡◌, ℕ, ◌<◌, get_or}
use Rattle.vod_level.proofs.is_done.Given as goal

abbrev pub invariant-loop-feeds : goal.invariant-loop-feeds
invariant-loop-feeds l = (q : ℕ) → q < l.feeds-index → get_or l.left q 0 ≡ 0
