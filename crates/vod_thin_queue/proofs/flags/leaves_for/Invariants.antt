use Rattle.std.proofs.Common.{◌≡◌, ◌-◌, ◌≤◌, ◌^◌}
use Rattle.vod_thin_queue.proofs.flags.leaves_for.Given as goal

abbrev pub invariant-loop-leaves : goal.invariant-loop-leaves
invariant-loop-leaves l = record { low : l.height ≤ 25; power : l.leaves ≡ 2 ^ l.height }

abbrev pub decreases-loop-leaves : goal.decreases-loop-leaves
decreases-loop-leaves l = 25 - l.height
