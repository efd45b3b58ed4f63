use Rattle.std.proofs.Common.{◌≡◌, ◌∷◌, drop}
use Rattle.vod_eval.specs.Sizes.{common, joint, labels_of}
use Rattle.vod_eval.proofs.labels.case_size.Given as goal

abbrev pub invariant-loop-item : goal.invariant-loop-item
invariant-loop-item l = joint l.size (common (labels_of (drop l.item-index l.items))) ≡ common (l.tested ∷ labels_of l.items)
