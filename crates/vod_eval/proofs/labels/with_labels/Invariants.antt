use Rattle.std.proofs.Common.{◌≡◌, drop}
use Rattle.vod_eval.specs.Sizes.{common, joint}
use Rattle.vod_eval.proofs.labels.with_labels.Given as goal

abbrev pub invariant-loop-label : goal.invariant-loop-label
invariant-loop-label l = joint l.size (common (drop l.label-index l.labels)) ≡ joint l.fn.size (common l.labels)
