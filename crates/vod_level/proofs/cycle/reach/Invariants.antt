use Rattle.std.proofs.Common.{◌≡◌, ℕ, ◌<◌, ◌≤◌, length, take, get_or}
use Rattle.vod_level.specs.Lists.{has}
use Rattle.vod_level.specs.Steps.{reached_in, IsReached}
use Rattle.vod_level.proofs.cycle.reach.Given as goal

abbrev pub invariant-loop-driver : goal.invariant-loop-driver
invariant-loop-driver l = record {
  moved : (q : ℕ) → q < length l.steps → get_or l.steps q 0 ≡ reached_in (has (take l.driver-index l.drivers) q) l.count (get_or l.fn.steps q 0);
  is_reached : IsReached l.steps l.reached.items;
  front : take (length l.fn.reached.items) l.reached.items ≡ l.fn.reached.items;
  added : (i : ℕ) → length l.fn.reached.items ≤ i → i < length l.reached.items → get_or l.steps (get_or l.reached.items i 0) 0 ≡ l.count;
}
