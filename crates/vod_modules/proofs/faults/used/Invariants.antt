use Rattle.std.proofs.Common.{◌≡◌, ℕ, length, take, Some}
use Rattle.vod_modules.specs.Faults.{is_marked, is_used}
use Rattle.vod_modules.proofs.faults.used.Given as goal

abbrev pub invariant-loop-edge : goal.invariant-loop-edge
invariant-loop-edge l = (length l.used.items ≡ l.count) × ((k : ℕ) → is_marked l.used.items (Some k) ≡ is_used (take l.edge-index l.edges) (Some k))
