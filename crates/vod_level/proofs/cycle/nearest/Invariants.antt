use Rattle.std.proofs.Common.{◌≡◌, ℕ, ◌-◌, ◌^◌, ◌≤◌, true, ◌⊎◌, take, get_or}
use Rattle.vod_level.specs.Lists.{has}
use Rattle.vod_level.proofs.cycle.nearest.Given as goal

abbrev pub invariant-loop-driver : goal.invariant-loop-driver
invariant-loop-driver l = record {
  found : (l.least ≡ 2 ^ 32 - 1) ⊎ ((has (take l.driver-index l.drivers) l.least ≡ true) × (get_or l.steps l.least 0 ≡ l.count));
  below : (q : ℕ) → has (take l.driver-index l.drivers) q ≡ true → get_or l.steps q 0 ≡ l.count → l.least ≤ q;
}
