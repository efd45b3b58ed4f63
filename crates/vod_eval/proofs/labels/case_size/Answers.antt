use Rattle.std.proofs.Common.{◌∙◌, ◌+◌, sym, ap, arith, drop}
use Rattle.vod_eval.specs.Sizes.{joint, common, labels_of}
use Rattle.vod_eval.proofs.Commons.{joint_none, joint_twice, common_more}
use Rattle.vod_eval.proofs.Kept.{drop_item, drop_past}
use Rattle.vod_eval.proofs.labels.case_size.Goals as goal

pub loop-item-preserved : goal.loop-item-preserved
loop-item-preserved c =
    let i = c.loop-item.item-index in
    let items = c.args.items.now in
    let rest = labels_of (drop (i + 1) items) in
    let labels = c.item-item.result.labels in
    let split = drop_item items i c.item-item.result c.item-item.is (omega arith) in
    ap (λ s. joint s (common rest)) (c.with_labels-size.ensures ∙ ap (λ es. joint c.loop-item.size (common es)) c.as_slice.ensures)
    ∙ joint_twice c.loop-item.size (common labels) (common rest) ∙ ap (joint c.loop-item.size) (sym (common_more labels rest))
    ∙ sym (ap (λ is. joint c.loop-item.size (common (labels_of is))) split) ∙ c.loop-item.invariant

pub returns : goal.returns
returns c =
    let none = drop_past c.loop-item.item-index c.args.items.now (omega arith) in
    sym (joint_none c.loop-item.size) ∙ sym (ap (λ is. joint c.loop-item.size (common (labels_of is))) none) ∙ c.loop-item.invariant
