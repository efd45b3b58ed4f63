use Rattle.std.proofs.Common.{◌≡◌, ℕ, ◌<◌, [], length, take, get_or}
use Rattle.vod_level.specs.Peel.{waits}
use Rattle.vod_level.proofs.peel.waiting.Given as goal

abbrev pub invariant-loop-feed : goal.invariant-loop-feed
invariant-loop-feed l = (length l.waiting.items ≡ l.count) × ((q : ℕ) → q < l.count → get_or l.waiting.items q 0 ≡ waits [] (take l.feed-index l.feeds) q)
