use Rattle.std.proofs.Common.{◌≡◌, ◌+◌, ◌*◌, max, ◌∷◌, [], map, flat_map, take, drop, option_map, None}
use Rattle.vod_eval.specs.Pieces.{bits_of_option, lowest, gate_start, gate_table}
use Rattle.vod_design.specs.Values.{at_size}
use Rattle.vod_design.specs.Eval.{fold_inputs}
use Rattle.vod_design.specs.Run.{in_turn, has_label, first_branch, numbered}
use Rattle.vod_eval.specs.Scenes.{seen, run_in, bits_in, bits_at, input_in, index_in}
use Rattle.vod_eval.specs.Room.{most}
use Rattle.vod_eval.proofs.Depth.{depth, part_depth, statement_depth, labels_depth, base}
use Rattle.vod_eval.proofs.eval.+eval.Given as goal

abbrev pub decreases-value : goal.decreases-value
decreases-value g l = base l.scene.now + 5 * depth l.e.now + 2

abbrev pub decreases-unsized_value : goal.decreases-unsized_value
decreases-unsized_value g l = base l.scene.now + 5 * depth l.e.now + 1

abbrev pub decreases-chosen : goal.decreases-chosen
decreases-chosen g l = base l.scene.now + 5 * max (depth l.a.now) (depth l.b.now) + 3

abbrev pub decreases-concat : goal.decreases-concat
decreases-concat g l = base l.scene.now + 5 * most (map depth l.parts.now) + 4

abbrev pub decreases-folded : goal.decreases-folded
decreases-folded g l = base l.scene.now + 5 * most (map depth l.inputs.now) + 4

abbrev pub decreases-call : goal.decreases-call
decreases-call g l = base l.scene.now + 5 * most (map depth l.arguments.now) + 5

abbrev pub decreases-values : goal.decreases-values
decreases-values g l = base l.scene.now + 5 * most (map depth l.exprs.now) + 4

abbrev pub decreases-run : goal.decreases-run
decreases-run g l = base l.scene.now + 5 * statement_depth l.statement.now + 2

abbrev pub decreases-run_all : goal.decreases-run_all
decreases-run_all g l = base l.scene.now + 5 * most (map statement_depth l.statements.now) + 4

abbrev pub decreases-item_taken : goal.decreases-item_taken
decreases-item_taken g l = base l.scene.now + 5 * max (depth l.tested.now) (most (map labels_depth l.items.now)) + 6

abbrev pub decreases-first_item : goal.decreases-first_item
decreases-first_item g l = base l.scene.now + 5 * most (map labels_depth l.items.now) + 5

abbrev pub decreases-has_label : goal.decreases-has_label
decreases-has_label g l = base l.scene.now + 5 * most (map depth l.labels.now) + 4

abbrev pub decreases-indices : goal.decreases-indices
decreases-indices g l = base l.scene.now + 5 * most (map part_depth l.parts.now) + 4

abbrev pub decreases-part_index : goal.decreases-part_index
decreases-part_index g l = base l.scene.now + 5 * part_depth l.part.now + 3

abbrev pub invariant-concat-loop-part : goal.invariant-concat-loop-part
invariant-concat-loop-part g l = bits_of_option (option_map g.V.Value.bits l.bits) ≡ lowest (flat_map (bits_in (seen g.V.Value.fill g.T.Tables.values l.scene) (map g.V.Value.bits l.frame)) (take l.part-index l.parts))

abbrev pub invariant-folded-loop-input : goal.invariant-folded-loop-input
invariant-folded-loop-input g l = g.V.Value.bits l.so_far ≡ fold_inputs (gate_table l.op) (gate_start g.V.Value.fill l.op) (flat_map (input_in (seen g.V.Value.fill g.T.Tables.values l.scene) (map g.V.Value.bits l.frame)) (take l.input-index l.inputs)) ∷ []

abbrev pub invariant-values-loop-i : goal.invariant-values-loop-i
invariant-values-loop-i g l = take l.i (map g.V.Value.bits l.room) ≡ map (bits_in (seen g.V.Value.fill g.T.Tables.values l.scene) (map g.V.Value.bits l.frame)) (take l.i l.exprs)

abbrev pub invariant-indices-loop-i : goal.invariant-indices-loop-i
invariant-indices-loop-i g l = take l.i (map g.V.Value.bits l.room) ≡ map (index_in (seen g.V.Value.fill g.T.Tables.values l.scene) (map g.V.Value.bits l.frame)) (take l.i l.parts)

abbrev pub invariant-run_all-loop-statement : goal.invariant-run_all-loop-statement
invariant-run_all-loop-statement g l =
    in_turn (map (run_in (seen g.V.Value.fill g.T.Tables.values l.scene)) (drop l.statement-index l.statements)) (map g.V.Value.bits l.frame) ≡ in_turn (map (run_in (seen g.V.Value.fill g.T.Tables.values l.scene)) l.statements) (map g.V.Value.bits l.fn.frame)

abbrev pub invariant-has_label-loop-label : goal.invariant-has_label-loop-label
invariant-has_label-loop-label g l =
    has_label (bits_at (seen g.V.Value.fill g.T.Tables.values l.scene) (map g.V.Value.bits l.frame) l.size) (at_size l.size.width l.size.signed (g.V.Value.bits l.tested)) (drop l.label-index l.labels)
    ≡ has_label (bits_at (seen g.V.Value.fill g.T.Tables.values l.scene) (map g.V.Value.bits l.frame) l.size) (at_size l.size.width l.size.signed (g.V.Value.bits l.tested)) l.labels

abbrev pub invariant-first_item-loop-i : goal.invariant-first_item-loop-i
invariant-first_item-loop-i g l =
    let scene = seen g.V.Value.fill g.T.Tables.values l.scene in
    let frame = map g.V.Value.bits l.frame in
    let tested = at_size l.size.width l.size.signed (g.V.Value.bits l.tested) in
    first_branch (bits_at scene frame l.size) tested (numbered l.i (drop l.i l.items)) None ≡ first_branch (bits_at scene frame l.size) tested (numbered 0 l.items) None
