use Rattle.std.proofs.Common.{◌≡◌, ◌<◌, vec_len, ◌∙◌, ap, length, arith, refl}
use Rattle.std.proofs.lemmas.Grind.{common_steps}
use Rattle.vod_thin_design.specs.declared.thin.Input.{Input}
use Rattle.vod_thin_queue.proofs.Accepted.{below_same, within_at, input_within}
use Rattle.vod_thin_queue.proofs.First.{first_values-none, first_values-next, first_values-all, length-first_values}
use Rattle.vod_thin_queue.proofs.agenda.first_values.Goals as goal

pub loop-input-init : goal.loop-input-init
loop-input-init c = grind (arith, common_steps, first_values-none)

pub index_mut-requires : goal.index_mut-requires
index_mut-requires c =
    let h : c.loop-input.input-index < length c.args.design.now.inputs = rw (← c.inputs-input-items.ensures.items) c.loop-input-test.true in
    let len = ap length c.loop-input.invariant ∙ length-first_values _ c.args.design.now.signals in
    let same : vec_len c.loop-input.val ≡ length c.args.design.now.signals = omega (arith, len) in
    below_same _ _ _ same
    (within_at (λ (input : Input). input.signal) (length c.args.design.now.signals) c.args.design.now.inputs _ c.loop-input.input-index _ c.inputs-input-items.ensures.items h (input_within c.args.design.now c.inputs-input-items.ensures.accepted c.loop-input.input-index h))

pub loop-input-preserved : goal.loop-input-preserved
loop-input-preserved c = first_values-next c.args.design.now c.inputs-input-items.result.now c.loop-input.input-index _ c.loop-input.val.items _ c.inputs-input-items.ensures.items c.loop-input-test.true c.inputs-input-items.ensures.accepted.inputs_within c.loop-input.invariant refl

pub returns : goal.returns
returns c = first_values-all c.args.design.now _ c.loop-input.input-index _ c.inputs-input-items.ensures.items c.loop-input-test.false c.loop-input.invariant
