use Rattle.std.proofs.Common.{◌≡◌, ◌<◌, ℕ, true, length}
use Rattle.vod_thin_queue.specs.State.{flag_at}
use Rattle.vod_thin_queue.proofs.flags.Flags.all.Given as goal

abbrev pub invariant-loop-place : goal.invariant-loop-place
invariant-loop-place l = record { same : length l.flags ≡ l.len; set : (k : ℕ) → k < l.place → flag_at l.flags k ≡ true }
