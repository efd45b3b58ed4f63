use Rattle.std.proofs.Common.{ℕ, ◌<◌, ◌≤◌, get_or}
use Rattle.vod_fanout.specs.declared.Feed.{Feed}
use Rattle.vod_components.proofs.checks.falls.Given as goal

abbrev pub invariant-loop-edge : goal.invariant-loop-edge
invariant-loop-edge l = (k : ℕ) (d : Feed) → k < l.edge-index → get_or l.numbers (get_or l.edges k d).reader 0 ≤ get_or l.numbers (get_or l.edges k d).source 0
