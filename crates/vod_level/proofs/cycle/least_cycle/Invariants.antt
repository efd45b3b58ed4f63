use Rattle.std.proofs.Common.{ℕ, ◌<◌, List}
use Rattle.vod_level.specs.Cycle.{Chain}
use Rattle.vod_level.specs.Lists.{has_feed}
use Rattle.vod_level.proofs.cycle.least_cycle.Given as goal

abbrev pub invariant-loop-driver : goal.invariant-loop-driver
invariant-loop-driver l = (d : ℕ) → d < l.driver → (ds : List ℕ) → Chain (has_feed l.feeds) d ds d → ⊥
