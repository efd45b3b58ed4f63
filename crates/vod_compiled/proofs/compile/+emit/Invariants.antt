use Rattle.std.proofs.Common.{◌≡◌, ◌+◌, ◌*◌, ◌≤◌, map, reverse, length}
use Rattle.vod_compiled.specs.Code.{coded, joined_steps, inputs_steps}
use Rattle.vod_eval.specs.Room.{most}
use Rattle.vod_compiled.proofs.Layers.{depth}
use Rattle.vod_compiled.proofs.compile.+emit.Given as goal

abbrev pub decreases-emit : goal.decreases-emit
decreases-emit l = 4 * depth l.e.now + 1

abbrev pub decreases-emit_before : goal.decreases-emit_before
decreases-emit_before l = 4 * depth l.operand.now + 2

abbrev pub decreases-emit_joined : goal.decreases-emit_joined
decreases-emit_joined l = 4 * most (map depth l.parts.now) + 3

abbrev pub decreases-emit_inputs : goal.decreases-emit_inputs
decreases-emit_inputs l = 4 * most (map depth l.inputs.now) + 3

abbrev pub decreases-emit_concat : goal.decreases-emit_concat
decreases-emit_concat l = 4 * most (map depth l.parts.now) + 4

abbrev pub invariant-emit_joined-loop-part : goal.invariant-emit_joined-loop-part
invariant-emit_joined-loop-part l = record {
  whole : joined_steps l.width l.signed l.first (map coded l.left) (reverse l.steps.items) ≡ joined_steps l.width l.signed l.first (map coded l.parts) (reverse l.fn.steps.items);
  depths : most (map depth l.left) ≤ most (map depth l.parts);
}

abbrev pub decreases-emit_joined-loop-part : goal.decreases-emit_joined-loop-part
decreases-emit_joined-loop-part l = length l.left

abbrev pub invariant-emit_inputs-loop-input : goal.invariant-emit_inputs-loop-input
invariant-emit_inputs-loop-input l = record {
  whole : inputs_steps l.gate l.width l.signed l.first (map coded l.left) (reverse l.steps.items) ≡ inputs_steps l.gate l.width l.signed l.first (map coded l.inputs) (reverse l.fn.steps.items);
  depths : most (map depth l.left) ≤ most (map depth l.inputs);
}

abbrev pub decreases-emit_inputs-loop-input : goal.decreases-emit_inputs-loop-input
decreases-emit_inputs-loop-input l = length l.left
