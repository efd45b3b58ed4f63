use Rattle.std.proofs.Common.{◌∙◌, ◌+◌, sym, ap, arith, drop}
use Rattle.vod_eval.specs.Sizes.{own, joint, common}
use Rattle.vod_eval.proofs.Commons.{joint_none, joint_twice}
use Rattle.vod_eval.proofs.Kept.{drop_item, drop_past}
use Rattle.vod_eval.proofs.labels.with_labels.Goals as goal

pub loop-label-preserved : goal.loop-label-preserved
loop-label-preserved c =
    let i = c.loop-label.label-index in
    let labels = c.args.labels.now in
    let rest = drop (i + 1) labels in
    let split = drop_item labels i c.label-item.result c.label-item.is (omega arith) in
    ap (λ s. joint s (common rest)) (c.joint-size.ensures ∙ ap (joint c.loop-label.size) c.own_size.ensures) ∙ joint_twice c.loop-label.size (own c.label-item.result) (common rest)
    ∙ sym (ap (λ es. joint c.loop-label.size (common es)) split) ∙ c.loop-label.invariant

pub returns : goal.returns
returns c =
    let none = drop_past c.loop-label.label-index c.args.labels.now (omega arith) in
    sym (joint_none c.loop-label.size) ∙ sym (ap (λ es. joint c.loop-label.size (common es)) none) ∙ c.loop-label.invariant
