use Rattle.std.proofs.Common.{◌≡◌, take}
use Rattle.vod_counts.specs.Limits.{one_count, each_module}
use Rattle.vod_counts.proofs.weights.ones.Given as goal

abbrev pub invariant-loop-part : goal.invariant-loop-part
invariant-loop-part l = l.counts.items ≡ each_module one_count (take l.part-index l.parts)
