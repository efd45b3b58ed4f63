-- The goals of the evaluation: for each kind of expression and of statement, its equations give the measure, the room and the value.
use Rattle.std.proofs.Common.{◌≡◌, ◌∙◌, ◌+◌, sym, ap, arith, map, flat_map, take, drop, length, length-drop, length-take, refl, ◌-◌}
use Rattle.std.proofs.Math.ListN.{get_or-map}
use Rattle.std.proofs.lemmas.List.{take_all, take-map, length-map}
use Rattle.vod_design.specs.declared.sized.SizedExpr.{SizedExpr}
use Rattle.vod_design.specs.declared.sized.SizedKind.TheOpen.{SizedKind-F}
use Rattle.vod_design.specs.declared.sized.SizedKind.TheVariants.{rolls-Index, rolls-WordIndex, rolls-Unary, rolls-Binary, rolls-Comparison, rolls-LogicalNot, rolls-Logical, rolls-Reduction, rolls-Shift, rolls-Conditional, rolls-Concat, rolls-Replicate, rolls-Call, rolls-Gate, rolls-Number, rolls-Name, rolls-Select, rolls-Word}
use Rattle.vod_eval.specs.Room.{expr_room, statement_room, labels_room}
use Rattle.vod_eval.specs.Pieces.{lowest, gate_start, gate_table, gate_output}
use Rattle.vod_bits.specs.Bit.{Bit}
use Rattle.vod_eval.specs.CaseLaws.{labels_of_numbered, body_of}
use Rattle.vod_eval.specs.Sizes.{common}
use Rattle.vod_eval.proofs.Gates.{one_bit, fold_none, fold_more, gate_is}
use Rattle.vod_bits.specs.Value.{upper_bit}
use Rattle.vod_eval.specs.Scenes.{seen, rooms, calls_of, scene_values, operand_in, bits_in, bits_at, input_in, index_in, part_room, branch_in}
use Rattle.vod_eval.proofs.Depth.{depth, part_depth, statement_depth, labels_depth}
use Rattle.vod_eval.proofs.Layers.{depth_at, room_at, value_at_kind}
use Rattle.vod_eval.proofs.Kept.{most_item, staged_item, staged_long}
use Rattle.vod_design.specs.declared.statement.Size.{Size}
use Rattle.std.proofs.Common.{List, ◌++◌, ◌∷◌, [], ◌*◌, true, false, cond, length-append, Some, None, suc, add-one, get_or, slice_get, option_map, option_and_then}
use Rattle.vod_four.specs.Four.{truth_bit, choose_bits}
use Rattle.std.specs.List.{list_any}
use Rattle.vod_bits.specs.Bit.{is_1}
use Rattle.vod_design.specs.declared.statement.Statement.TheOpen.{Statement-F}
use Rattle.vod_design.specs.declared.statement.Statement.TheVariants.{rolls-Assign, rolls-If, rolls-Case, rolls-Begin, rolls-Empty}
use Rattle.vod_design.specs.Values.{Frame, Operand, at_size, bounded, word_or_x, word_at}
use Rattle.vod_design.specs.Eval.{identical_bit, repeated, fold_inputs, gate_bit}
use Rattle.vod_design.specs.Run.{Branch, result_of, call_below, first_branch, has_label, numbered, item_taken, assigned, in_turn, frame_of, run, nothing, index_bits}
use Rattle.vod_eval.specs.Room.{call_room, function_room}
use Rattle.vod_eval.specs.Scenes.{run_in, with_signs}
use Rattle.vod_eval.proofs.Callable.{calls_at, rooms_at, found_below, most_get, below_base, signs_back, operand_back, assigned_take, call_value}
use Rattle.vod_eval.proofs.Cuts.{at_size_length, filled_size, lowest_size, lowest_again}
use Rattle.vod_eval.proofs.Depth.{bodies_depth}
use Rattle.vod_eval.proofs.Layers.{statement_depth_at, statement_room_at, run_at, branch_at, case_at, labels_depth_below, labels_room_below}
use Rattle.vod_eval.proofs.Bodies.{body_depth_below, body_room_below}
use Rattle.vod_eval.proofs.Kept.{flat_map_map, flat_take, drop_item, drop_past, any_past, any_here, kept_more}
use Rattle.vod_eval.proofs.eval.+eval.Goals as goal

pub call-returns-in_default : goal.call-returns-in_default
call-returns-in_default g t c =
    c.nothing.ensures ∙ sym (calls_at g.V.Value.fill c.args.scene.now.functions.now c.args.scene.now.limit c.args.n (map (operand_in (seen g.V.Value.fill g.T.Tables.values c.args.scene.now) (map g.V.Value.bits c.args.frame.now)) c.args.arguments.now)
    ∙ ap (λ o. result_of g.V.Value.fill (call_below g.V.Value.fill c.args.scene.now.functions.now c.args.n) o (map (operand_in (seen g.V.Value.fill g.T.Tables.values c.args.scene.now) (map g.V.Value.bits c.args.frame.now)) c.args.arguments.now)) c.in_default.ensures)

pub call-enter-requires-clause-variables : goal.call-enter-requires-clause-variables
call-enter-requires-clause-variables g t c =
    let r = rooms_at c.args.scene.now.functions.now c.args.scene.now.limit c.args.n ∙ ap (function_room (call_room c.args.scene.now.functions.now c.args.n)) c.in-Some.ensures in
    omega (arith, r, c.requires.function)

pub call-split_at_mut-variables-requires : goal.call-split_at_mut-variables-requires
call-split_at_mut-variables-requires g t c =
    let r = rooms_at c.args.scene.now.functions.now c.args.scene.now.limit c.args.n ∙ ap (function_room (call_room c.args.scene.now.functions.now c.args.n)) c.in-Some.ensures in
    rw (c.as_slice.ensures, c.as_slice-2.ensures) (omega (arith, r, c.requires.function))

pub call-run-requires : goal.call-run-requires
call-run-requires g t c =
    let r = rooms_at c.args.scene.now.functions.now c.args.scene.now.limit c.args.n ∙ ap (function_room (call_room c.args.scene.now.functions.now c.args.n)) c.in-Some.ensures in
    let f = found_below c.args.scene.now.functions.now c.args.scene.now.limit c.args.n c.in-Some.function.now c.in-Some.ensures in
    let m = most_get (λ f. statement_depth f.body) c.args.scene.now.functions.now c.args.n c.in-Some.function.now f.1 in
    let falls = below_base c.args.n c.args.scene.now.limit (5 * bodies_depth c.args.scene.now.functions.now + 3) (5 * statement_depth c.in-Some.function.now.body + 2) f.0 (omega (arith, m)) in
    rw c.statement.ensures (λ κs b. (omega (arith, falls), (b.0, (b.1, omega (arith, r, c.requires.function, c.split_at_mut-variables.ensures.back_len, ap length c.as_slice.ensures, ap length c.as_slice-2.ensures)))))

pub call-returns : goal.call-returns
call-returns g t c =
    let b = g.V.Value.bits in
    let fill = g.V.Value.fill in
    let scene = seen fill g.T.Tables.values c.args.scene.now in
    let frame = map b c.args.frame.now in
    let f = c.in-Some.function.now in
    let functions = c.args.scene.now.functions.now in
    let n = c.args.n in
    let variables = c.split_at_mut-variables.result.0.now in
    let index = length c.as_slice.result.now + length c.as_slice-2.result.now in
    let last = c.index-variables-result.result in
    let args = map (operand_in scene frame) c.args.arguments.now in
    let inputs : length c.as_slice.result.now ≡ length f.inputs = ap length c.as_slice.ensures in
    let locals : length c.as_slice-2.result.now ≡ length f.locals = ap length c.as_slice-2.ensures in
    let count : index ≡ length f.inputs + length f.locals = omega arith in
    let signs : with_signs (take (length c.args.arguments.now) (map b c.values.new.room)) c.args.arguments.now ≡ args
    = ap (λ vs. with_signs vs c.args.arguments.now) c.values.ensures ∙ signs_back fill (calls_of scene) (scene_values scene) frame c.args.arguments.now in
    let entry : map b variables ≡ frame_of fill f args
    = ap (map b) c.split_at_mut-variables.ensures.front ∙ sym (take-map b (index + 1) c.enter.new.room) ∙ ap (λ k. take (k + 1) (map b c.enter.new.room)) count ∙ c.enter.ensures ∙ ap (frame_of fill f) signs in
    let is : b last ≡ get_or (map b c.run.new.frame) index (b last) = ap b c.index-variables-result.is ∙ sym (get_or-map b c.run.new.frame index last) in
    let done : map b c.run.new.frame ≡ run fill (call_below fill functions n) (nothing fill) f.body (map b variables)
    = c.run.ensures ∙ ap (λ s. run fill (call_below fill functions n) (nothing fill) s (map b variables)) c.statement.ensures in
    call_value fill functions c.args.scene.now.limit n args f (map b c.run.new.frame) (map b variables) index (b last) c.in-Some.ensures entry done count is
    (omega (arith, length-map c.run.new.frame b, c.split_at_mut-variables.ensures.front_len))

pub concat-value-requires : goal.concat-value-requires
concat-value-requires g t c =
    let d = most_item depth c.args.parts.now c.loop-part.part-index c.part-item.result c.part-item.is (omega arith) in
    let r = most_item (expr_room (rooms c.args.scene.now)) c.args.parts.now c.loop-part.part-index c.part-item.result c.part-item.is (omega arith) in
    λ κs b. (grind (arith, d), (b.0, (b.1, grind (arith, r))))

pub concat-returns : goal.concat-returns
concat-returns g t c =
    let whole = take_all c.loop-part.part-index c.args.parts.now (omega arith) in
    c.loop-part.invariant ∙ ap (λ xs. lowest (flat_map (bits_in (seen g.V.Value.fill g.T.Tables.values c.args.scene.now) (map g.V.Value.bits c.args.frame.now)) xs)) whole

pub has_label-value-other-requires : goal.has_label-value-other-requires
has_label-value-other-requires g t c =
    let d = most_item depth c.args.labels.now c.loop-label.label-index c.label-item.result c.label-item.is (omega arith) in
    let r = most_item (expr_room (rooms c.args.scene.now)) c.args.labels.now c.loop-label.label-index c.label-item.result c.label-item.is (omega arith) in
    λ κs b. (grind (arith, d), (b.0, (b.1, grind (arith, r))))

pub has_label-returns-then-is_identical : goal.has_label-returns-then-is_identical
has_label-returns-then-is_identical g t c =
    let size = c.args.size in
    let tested = at_size size.width size.signed (g.V.Value.bits c.args.tested) in
    let is = ap (λ v. is_1 (identical_bit tested (at_size size.width size.signed v))) c.value-other.ensures in
    let test = sym (c.is_identical.ensures ∙ is) ∙ c.if-is_identical.true in
    sym (any_here (λ label. is_1 (identical_bit tested (bits_at (seen g.V.Value.fill g.T.Tables.values c.args.scene.now) (map g.V.Value.bits c.args.frame.now) size label))) c.args.labels.now c.loop-label.label-index c.label-item.result c.label-item.is (omega arith) test) ∙ c.loop-label.invariant

pub has_label-returns : goal.has_label-returns
has_label-returns g t c =
    let size = c.args.size in
    let tested = at_size size.width size.signed (g.V.Value.bits c.args.tested) in
    let none = drop_past c.loop-label.label-index c.args.labels.now (omega arith) in
    sym (ap (λ ls. list_any (λ label. is_1 (identical_bit tested (bits_at (seen g.V.Value.fill g.T.Tables.values c.args.scene.now) (map g.V.Value.bits c.args.frame.now) size label))) ls) none) ∙ c.loop-label.invariant

pub indices-bounds-room-i : goal.indices-bounds-room-i
indices-bounds-room-i g t c = omega (arith, staged_long (part_room c.args.scene.now) c.args.parts.now)

pub indices-returns : goal.indices-returns
indices-returns g t c =
    let whole = take_all c.loop-i.i c.args.parts.now (omega arith) in
    let count : length c.args.parts.now ≡ c.loop-i.i = omega arith in
    rw count (c.loop-i.invariant ∙ ap (map (index_in (seen g.V.Value.fill g.T.Tables.values c.args.scene.now) (map g.V.Value.bits c.args.frame.now))) whole)

pub run-value-right-requires : goal.run-value-right-requires
run-value-right-requires g t c =
    let d = statement_depth_at c.args.statement.now (Statement-F.Assign c.in-Assign.parts c.in-Assign.right) (c.in-Assign.is ∙ sym (rolls-Assign c.in-Assign.parts c.in-Assign.right)) in
    let r = statement_room_at (rooms c.args.scene.now) c.args.statement.now (Statement-F.Assign c.in-Assign.parts c.in-Assign.right) (c.in-Assign.is ∙ sym (rolls-Assign c.in-Assign.parts c.in-Assign.right)) in
    λ κs b. (grind (arith, d), (b.0, (b.1, grind (arith, r))))

pub run-indices-requires : goal.run-indices-requires
run-indices-requires g t c =
    let d = statement_depth_at c.args.statement.now (Statement-F.Assign c.in-Assign.parts c.in-Assign.right) (c.in-Assign.is ∙ sym (rolls-Assign c.in-Assign.parts c.in-Assign.right)) in
    let r = statement_room_at (rooms c.args.scene.now) c.args.statement.now (Statement-F.Assign c.in-Assign.parts c.in-Assign.right) (c.in-Assign.is ∙ sym (rolls-Assign c.in-Assign.parts c.in-Assign.right)) in
    λ κs b. (grind (arith, d), (b.0, (b.1, grind (arith, r))))

pub run-value-test-requires : goal.run-value-test-requires
run-value-test-requires g t c =
    let d = statement_depth_at c.args.statement.now (Statement-F.If c.in-If.test c.in-If.taken c.in-If.other) (c.in-If.is ∙ sym (rolls-If c.in-If.test c.in-If.taken c.in-If.other)) in
    let r = statement_room_at (rooms c.args.scene.now) c.args.statement.now (Statement-F.If c.in-If.test c.in-If.taken c.in-If.other) (c.in-If.is ∙ sym (rolls-If c.in-If.test c.in-If.taken c.in-If.other)) in
    λ κs b. (grind (arith, d), (b.0, (b.1, grind (arith, r))))

pub run-run-requires : goal.run-run-requires
run-run-requires g t c =
    let d = statement_depth_at c.args.statement.now (Statement-F.If c.in-If.test c.in-If.taken c.in-If.other) (c.in-If.is ∙ sym (rolls-If c.in-If.test c.in-If.taken c.in-If.other)) in
    let r = statement_room_at (rooms c.args.scene.now) c.args.statement.now (Statement-F.If c.in-If.test c.in-If.taken c.in-If.other) (c.in-If.is ∙ sym (rolls-If c.in-If.test c.in-If.taken c.in-If.other)) in
    λ κs b. (grind (arith, d), (b.0, (b.1, grind (arith, r))))

pub run-run-requires-else-is_true : goal.run-run-requires-else-is_true
run-run-requires-else-is_true g t c =
    let d = statement_depth_at c.args.statement.now (Statement-F.If c.in-If.test c.in-If.taken c.in-If.other) (c.in-If.is ∙ sym (rolls-If c.in-If.test c.in-If.taken c.in-If.other)) in
    let r = statement_room_at (rooms c.args.scene.now) c.args.statement.now (Statement-F.If c.in-If.test c.in-If.taken c.in-If.other) (c.in-If.is ∙ sym (rolls-If c.in-If.test c.in-If.taken c.in-If.other)) in
    λ κs b. (grind (arith, d), (b.0, (b.1, grind (arith, r))))

pub run-run_all-requires : goal.run-run_all-requires
run-run_all-requires g t c =
    let d = statement_depth_at c.args.statement.now (Statement-F.Begin c.in-Begin.statements) (c.in-Begin.is ∙ sym (rolls-Begin c.in-Begin.statements)) in
    let r = statement_room_at (rooms c.args.scene.now) c.args.statement.now (Statement-F.Begin c.in-Begin.statements) (c.in-Begin.is ∙ sym (rolls-Begin c.in-Begin.statements)) in
    λ κs b. (grind (arith, d), (b.0, (b.1, grind (arith, r))))

pub run-returns-in-Assign : goal.run-returns-in-Assign
unfolding index_in
run-returns-in-Assign g t c =
    let parts = c.in-Assign.parts in
    let kept = ap (λ ps. take (length ps) (map g.V.Value.bits c.indices.new.room)) (sym c.as_slice.ensures) ∙ c.indices.ensures ∙ ap (map (index_in (seen g.V.Value.fill g.T.Tables.values c.args.scene.now) (map g.V.Value.bits c.args.frame.now))) c.as_slice.ensures in
    c.assign.ensures ∙ ap (λ ps. assigned g.V.Value.fill ps (map g.V.Value.bits c.indices.new.room) (g.V.Value.bits c.value-right.result) (map g.V.Value.bits c.args.frame.now)) c.as_slice-in-Assign.ensures
    ∙ assigned_take g.V.Value.fill parts (map g.V.Value.bits c.indices.new.room) (g.V.Value.bits c.value-right.result) (map g.V.Value.bits c.args.frame.now) ∙ ap (λ ix. assigned g.V.Value.fill parts ix (g.V.Value.bits c.value-right.result) (map g.V.Value.bits c.args.frame.now)) kept
    ∙ ap (λ b. assigned g.V.Value.fill parts (map (index_in (seen g.V.Value.fill g.T.Tables.values c.args.scene.now) (map g.V.Value.bits c.args.frame.now)) parts) b (map g.V.Value.bits c.args.frame.now)) c.value-right.ensures ∙ sym (run_at g.V.Value.fill (calls_of (seen g.V.Value.fill g.T.Tables.values c.args.scene.now)) (scene_values (seen g.V.Value.fill g.T.Tables.values c.args.scene.now)) (map g.V.Value.bits c.args.frame.now) c.args.statement.now (Statement-F.Assign c.in-Assign.parts c.in-Assign.right) (c.in-Assign.is ∙ sym (rolls-Assign c.in-Assign.parts c.in-Assign.right)))

pub run-returns-then-is_true : goal.run-returns-then-is_true
run-returns-then-is_true g t c =
    let test = sym (c.is_true.ensures ∙ ap (λ b. is_1 (truth_bit b)) c.value-test.ensures) ∙ c.if-is_true.true in
    c.run.ensures ∙ ap (λ s. run_in (seen g.V.Value.fill g.T.Tables.values c.args.scene.now) s (map g.V.Value.bits c.args.frame.now)) c.get.ensures
    ∙ sym (run_at g.V.Value.fill (calls_of (seen g.V.Value.fill g.T.Tables.values c.args.scene.now)) (scene_values (seen g.V.Value.fill g.T.Tables.values c.args.scene.now)) (map g.V.Value.bits c.args.frame.now) c.args.statement.now (Statement-F.If c.in-If.test c.in-If.taken c.in-If.other) (c.in-If.is ∙ sym (rolls-If c.in-If.test c.in-If.taken c.in-If.other)) ∙ ap (λ b. (cond b (run_in (seen g.V.Value.fill g.T.Tables.values c.args.scene.now) c.in-If.taken) (run_in (seen g.V.Value.fill g.T.Tables.values c.args.scene.now) c.in-If.other)) (map g.V.Value.bits c.args.frame.now)) test)

pub run-returns-else-is_true : goal.run-returns-else-is_true
run-returns-else-is_true g t c =
    let test = sym (c.is_true.ensures ∙ ap (λ b. is_1 (truth_bit b)) c.value-test.ensures) ∙ c.if-is_true.false in
    c.run-else-is_true.ensures ∙ ap (λ s. run_in (seen g.V.Value.fill g.T.Tables.values c.args.scene.now) s (map g.V.Value.bits c.args.frame.now)) c.get-else-is_true.ensures
    ∙ sym (run_at g.V.Value.fill (calls_of (seen g.V.Value.fill g.T.Tables.values c.args.scene.now)) (scene_values (seen g.V.Value.fill g.T.Tables.values c.args.scene.now)) (map g.V.Value.bits c.args.frame.now) c.args.statement.now (Statement-F.If c.in-If.test c.in-If.taken c.in-If.other) (c.in-If.is ∙ sym (rolls-If c.in-If.test c.in-If.taken c.in-If.other)) ∙ ap (λ b. (cond b (run_in (seen g.V.Value.fill g.T.Tables.values c.args.scene.now) c.in-If.taken) (run_in (seen g.V.Value.fill g.T.Tables.values c.args.scene.now) c.in-If.other)) (map g.V.Value.bits c.args.frame.now)) test)

pub run-returns-in-Begin : goal.run-returns-in-Begin
run-returns-in-Begin g t c =
    c.run_all.ensures ∙ ap (λ ss. in_turn (map (run_in (seen g.V.Value.fill g.T.Tables.values c.args.scene.now)) ss) (map g.V.Value.bits c.args.frame.now)) c.as_slice-in-Begin.ensures ∙ sym (run_at g.V.Value.fill (calls_of (seen g.V.Value.fill g.T.Tables.values c.args.scene.now)) (scene_values (seen g.V.Value.fill g.T.Tables.values c.args.scene.now)) (map g.V.Value.bits c.args.frame.now) c.args.statement.now (Statement-F.Begin c.in-Begin.statements) (c.in-Begin.is ∙ sym (rolls-Begin c.in-Begin.statements)))

pub run-returns-in-Empty : goal.run-returns-in-Empty
run-returns-in-Empty g t c =
    sym (run_at g.V.Value.fill (calls_of (seen g.V.Value.fill g.T.Tables.values c.args.scene.now)) (scene_values (seen g.V.Value.fill g.T.Tables.values c.args.scene.now)) (map g.V.Value.bits c.args.frame.now) c.args.statement.now Statement-F.Empty (c.in-Empty.is ∙ sym rolls-Empty))

pub run_all-run-requires : goal.run_all-run-requires
run_all-run-requires g t c =
    let d = most_item statement_depth c.args.statements.now c.loop-statement.statement-index c.statement-item.result c.statement-item.is (omega arith) in
    let r = most_item (statement_room (rooms c.args.scene.now)) c.args.statements.now c.loop-statement.statement-index c.statement-item.result c.statement-item.is (omega arith) in
    λ κs b. (grind (arith, d), (b.0, (b.1, grind (arith, r))))

pub run_all-returns : goal.run_all-returns
run_all-returns g t c =
    let none = drop_past c.loop-statement.statement-index c.args.statements.now (omega arith) in
    sym (ap (λ ss. in_turn (map (run_in (seen g.V.Value.fill g.T.Tables.values c.args.scene.now)) ss) (map g.V.Value.bits c.loop-statement.frame)) none) ∙ c.loop-statement.invariant

pub unsized_value-value-index-requires : goal.unsized_value-value-index-requires
unsized_value-value-index-requires g t c =
    let d = depth_at c.args.e.now (SizedKind-F.Index c.in-Index.name c.in-Index.least c.in-Index.index) (c.in-Index.is ∙ sym (rolls-Index c.in-Index.name c.in-Index.least c.in-Index.index)) in
    let r = room_at (rooms c.args.scene.now) c.args.e.now (SizedKind-F.Index c.in-Index.name c.in-Index.least c.in-Index.index) (c.in-Index.is ∙ sym (rolls-Index c.in-Index.name c.in-Index.least c.in-Index.index)) in
    λ κs b. (grind (arith, d), (b.0, (b.1, grind (arith, r))))

pub unsized_value-value-index-requires-in-WordIndex : goal.unsized_value-value-index-requires-in-WordIndex
unsized_value-value-index-requires-in-WordIndex g t c =
    let d = depth_at c.args.e.now (SizedKind-F.WordIndex c.in-WordIndex.memory c.in-WordIndex.least c.in-WordIndex.index) (c.in-WordIndex.is ∙ sym (rolls-WordIndex c.in-WordIndex.memory c.in-WordIndex.least c.in-WordIndex.index)) in
    let r = room_at (rooms c.args.scene.now) c.args.e.now (SizedKind-F.WordIndex c.in-WordIndex.memory c.in-WordIndex.least c.in-WordIndex.index) (c.in-WordIndex.is ∙ sym (rolls-WordIndex c.in-WordIndex.memory c.in-WordIndex.least c.in-WordIndex.index)) in
    λ κs b. (grind (arith, d), (b.0, (b.1, grind (arith, r))))

pub unsized_value-value-a-requires : goal.unsized_value-value-a-requires
unsized_value-value-a-requires g t c =
    let d = depth_at c.args.e.now (SizedKind-F.Unary c.in-Unary.op c.in-Unary.a) (c.in-Unary.is ∙ sym (rolls-Unary c.in-Unary.op c.in-Unary.a)) in
    let r = room_at (rooms c.args.scene.now) c.args.e.now (SizedKind-F.Unary c.in-Unary.op c.in-Unary.a) (c.in-Unary.is ∙ sym (rolls-Unary c.in-Unary.op c.in-Unary.a)) in
    λ κs b. (grind (arith, d), (b.0, (b.1, grind (arith, r))))

pub unsized_value-value-a-requires-in-Binary : goal.unsized_value-value-a-requires-in-Binary
unsized_value-value-a-requires-in-Binary g t c =
    let d = depth_at c.args.e.now (SizedKind-F.Binary c.in-Binary.op c.in-Binary.a c.in-Binary.b) (c.in-Binary.is ∙ sym (rolls-Binary c.in-Binary.op c.in-Binary.a c.in-Binary.b)) in
    let r = room_at (rooms c.args.scene.now) c.args.e.now (SizedKind-F.Binary c.in-Binary.op c.in-Binary.a c.in-Binary.b) (c.in-Binary.is ∙ sym (rolls-Binary c.in-Binary.op c.in-Binary.a c.in-Binary.b)) in
    λ κs b. (grind (arith, d), (b.0, (b.1, grind (arith, r))))

pub unsized_value-value-b-requires : goal.unsized_value-value-b-requires
unsized_value-value-b-requires g t c =
    let d = depth_at c.args.e.now (SizedKind-F.Binary c.in-Binary.op c.in-Binary.a c.in-Binary.b) (c.in-Binary.is ∙ sym (rolls-Binary c.in-Binary.op c.in-Binary.a c.in-Binary.b)) in
    let r = room_at (rooms c.args.scene.now) c.args.e.now (SizedKind-F.Binary c.in-Binary.op c.in-Binary.a c.in-Binary.b) (c.in-Binary.is ∙ sym (rolls-Binary c.in-Binary.op c.in-Binary.a c.in-Binary.b)) in
    λ κs b. (grind (arith, d), (b.0, (b.1, grind (arith, r))))

pub unsized_value-binary-requires : goal.unsized_value-binary-requires
unsized_value-binary-requires g t c = rw (c.at_size-in-Binary.ensures, c.at_size-in-Binary-2.ensures) (at_size_length c.args.e.now.width c.args.e.now.signed _ ∙ sym (at_size_length c.args.e.now.width c.args.e.now.signed _))

pub unsized_value-value-one-requires : goal.unsized_value-value-one-requires
unsized_value-value-one-requires g t c =
    let d = depth_at c.args.e.now (SizedKind-F.Comparison c.in-Comparison.op c.in-Comparison.a c.in-Comparison.b) (c.in-Comparison.is ∙ sym (rolls-Comparison c.in-Comparison.op c.in-Comparison.a c.in-Comparison.b)) in
    let r = room_at (rooms c.args.scene.now) c.args.e.now (SizedKind-F.Comparison c.in-Comparison.op c.in-Comparison.a c.in-Comparison.b) (c.in-Comparison.is ∙ sym (rolls-Comparison c.in-Comparison.op c.in-Comparison.a c.in-Comparison.b)) in
    λ κs b. (grind (arith, d), (b.0, (b.1, grind (arith, r))))

pub unsized_value-value-other-requires : goal.unsized_value-value-other-requires
unsized_value-value-other-requires g t c =
    let d = depth_at c.args.e.now (SizedKind-F.Comparison c.in-Comparison.op c.in-Comparison.a c.in-Comparison.b) (c.in-Comparison.is ∙ sym (rolls-Comparison c.in-Comparison.op c.in-Comparison.a c.in-Comparison.b)) in
    let r = room_at (rooms c.args.scene.now) c.args.e.now (SizedKind-F.Comparison c.in-Comparison.op c.in-Comparison.a c.in-Comparison.b) (c.in-Comparison.is ∙ sym (rolls-Comparison c.in-Comparison.op c.in-Comparison.a c.in-Comparison.b)) in
    λ κs b. (grind (arith, d), (b.0, (b.1, grind (arith, r))))

pub unsized_value-value-requires : goal.unsized_value-value-requires
unsized_value-value-requires g t c =
    let d = depth_at c.args.e.now (SizedKind-F.LogicalNot c.in-LogicalNot.a) (c.in-LogicalNot.is ∙ sym (rolls-LogicalNot c.in-LogicalNot.a)) in
    let r = room_at (rooms c.args.scene.now) c.args.e.now (SizedKind-F.LogicalNot c.in-LogicalNot.a) (c.in-LogicalNot.is ∙ sym (rolls-LogicalNot c.in-LogicalNot.a)) in
    λ κs b. (grind (arith, d), (b.0, (b.1, grind (arith, r))))

pub unsized_value-value-a-requires-in-Logical : goal.unsized_value-value-a-requires-in-Logical
unsized_value-value-a-requires-in-Logical g t c =
    let d = depth_at c.args.e.now (SizedKind-F.Logical c.in-Logical.op c.in-Logical.a c.in-Logical.b) (c.in-Logical.is ∙ sym (rolls-Logical c.in-Logical.op c.in-Logical.a c.in-Logical.b)) in
    let r = room_at (rooms c.args.scene.now) c.args.e.now (SizedKind-F.Logical c.in-Logical.op c.in-Logical.a c.in-Logical.b) (c.in-Logical.is ∙ sym (rolls-Logical c.in-Logical.op c.in-Logical.a c.in-Logical.b)) in
    λ κs b. (grind (arith, d), (b.0, (b.1, grind (arith, r))))

pub unsized_value-value-b-requires-in-Logical : goal.unsized_value-value-b-requires-in-Logical
unsized_value-value-b-requires-in-Logical g t c =
    let d = depth_at c.args.e.now (SizedKind-F.Logical c.in-Logical.op c.in-Logical.a c.in-Logical.b) (c.in-Logical.is ∙ sym (rolls-Logical c.in-Logical.op c.in-Logical.a c.in-Logical.b)) in
    let r = room_at (rooms c.args.scene.now) c.args.e.now (SizedKind-F.Logical c.in-Logical.op c.in-Logical.a c.in-Logical.b) (c.in-Logical.is ∙ sym (rolls-Logical c.in-Logical.op c.in-Logical.a c.in-Logical.b)) in
    λ κs b. (grind (arith, d), (b.0, (b.1, grind (arith, r))))

pub unsized_value-value-a-requires-in-Reduction : goal.unsized_value-value-a-requires-in-Reduction
unsized_value-value-a-requires-in-Reduction g t c =
    let d = depth_at c.args.e.now (SizedKind-F.Reduction c.in-Reduction.op c.in-Reduction.a) (c.in-Reduction.is ∙ sym (rolls-Reduction c.in-Reduction.op c.in-Reduction.a)) in
    let r = room_at (rooms c.args.scene.now) c.args.e.now (SizedKind-F.Reduction c.in-Reduction.op c.in-Reduction.a) (c.in-Reduction.is ∙ sym (rolls-Reduction c.in-Reduction.op c.in-Reduction.a)) in
    λ κs b. (grind (arith, d), (b.0, (b.1, grind (arith, r))))

pub unsized_value-value-a-requires-in-Shift : goal.unsized_value-value-a-requires-in-Shift
unsized_value-value-a-requires-in-Shift g t c =
    let d = depth_at c.args.e.now (SizedKind-F.Shift c.in-Shift.op c.in-Shift.a c.in-Shift.amount) (c.in-Shift.is ∙ sym (rolls-Shift c.in-Shift.op c.in-Shift.a c.in-Shift.amount)) in
    let r = room_at (rooms c.args.scene.now) c.args.e.now (SizedKind-F.Shift c.in-Shift.op c.in-Shift.a c.in-Shift.amount) (c.in-Shift.is ∙ sym (rolls-Shift c.in-Shift.op c.in-Shift.a c.in-Shift.amount)) in
    λ κs b. (grind (arith, d), (b.0, (b.1, grind (arith, r))))

pub unsized_value-value-amount-requires : goal.unsized_value-value-amount-requires
unsized_value-value-amount-requires g t c =
    let d = depth_at c.args.e.now (SizedKind-F.Shift c.in-Shift.op c.in-Shift.a c.in-Shift.amount) (c.in-Shift.is ∙ sym (rolls-Shift c.in-Shift.op c.in-Shift.a c.in-Shift.amount)) in
    let r = room_at (rooms c.args.scene.now) c.args.e.now (SizedKind-F.Shift c.in-Shift.op c.in-Shift.a c.in-Shift.amount) (c.in-Shift.is ∙ sym (rolls-Shift c.in-Shift.op c.in-Shift.a c.in-Shift.amount)) in
    λ κs b. (grind (arith, d), (b.0, (b.1, grind (arith, r))))

pub unsized_value-value-test-requires : goal.unsized_value-value-test-requires
unsized_value-value-test-requires g t c =
    let d = depth_at c.args.e.now (SizedKind-F.Conditional c.in-Conditional.test c.in-Conditional.a c.in-Conditional.b) (c.in-Conditional.is ∙ sym (rolls-Conditional c.in-Conditional.test c.in-Conditional.a c.in-Conditional.b)) in
    let r = room_at (rooms c.args.scene.now) c.args.e.now (SizedKind-F.Conditional c.in-Conditional.test c.in-Conditional.a c.in-Conditional.b) (c.in-Conditional.is ∙ sym (rolls-Conditional c.in-Conditional.test c.in-Conditional.a c.in-Conditional.b)) in
    λ κs b. (grind (arith, d), (b.0, (b.1, grind (arith, r))))

pub unsized_value-chosen-requires : goal.unsized_value-chosen-requires
unsized_value-chosen-requires g t c =
    let d = depth_at c.args.e.now (SizedKind-F.Conditional c.in-Conditional.test c.in-Conditional.a c.in-Conditional.b) (c.in-Conditional.is ∙ sym (rolls-Conditional c.in-Conditional.test c.in-Conditional.a c.in-Conditional.b)) in
    let r = room_at (rooms c.args.scene.now) c.args.e.now (SizedKind-F.Conditional c.in-Conditional.test c.in-Conditional.a c.in-Conditional.b) (c.in-Conditional.is ∙ sym (rolls-Conditional c.in-Conditional.test c.in-Conditional.a c.in-Conditional.b)) in
    λ κs b. (grind (arith, d), (b.0, (b.1, (grind (arith, r), grind (arith, r)))))

pub chosen-choose-requires : goal.chosen-choose-requires
chosen-choose-requires g t c = rw (c.at_size-in-None.ensures, c.at_size-in-None-2.ensures) (at_size_length c.args.size.width c.args.size.signed _ ∙ sym (at_size_length c.args.size.width c.args.size.signed _))

pub unsized_value-concat-requires : goal.unsized_value-concat-requires
unsized_value-concat-requires g t c =
    let d = depth_at c.args.e.now (SizedKind-F.Concat c.in-Concat.parts) (c.in-Concat.is ∙ sym (rolls-Concat c.in-Concat.parts)) in
    let r = room_at (rooms c.args.scene.now) c.args.e.now (SizedKind-F.Concat c.in-Concat.parts) (c.in-Concat.is ∙ sym (rolls-Concat c.in-Concat.parts)) in
    λ κs b. (grind (arith, d), (b.0, (b.1, grind (arith, r))))

pub unsized_value-value-a-requires-in-Replicate : goal.unsized_value-value-a-requires-in-Replicate
unsized_value-value-a-requires-in-Replicate g t c =
    let d = depth_at c.args.e.now (SizedKind-F.Replicate c.in-Replicate.count c.in-Replicate.a) (c.in-Replicate.is ∙ sym (rolls-Replicate c.in-Replicate.count c.in-Replicate.a)) in
    let r = room_at (rooms c.args.scene.now) c.args.e.now (SizedKind-F.Replicate c.in-Replicate.count c.in-Replicate.a) (c.in-Replicate.is ∙ sym (rolls-Replicate c.in-Replicate.count c.in-Replicate.a)) in
    λ κs b. (grind (arith, d), (b.0, (b.1, grind (arith, r))))

pub unsized_value-call-requires : goal.unsized_value-call-requires
unsized_value-call-requires g t c =
    let d = depth_at c.args.e.now (SizedKind-F.Call c.in-Call.n c.in-Call.arguments) (c.in-Call.is ∙ sym (rolls-Call c.in-Call.n c.in-Call.arguments)) in
    let r = room_at (rooms c.args.scene.now) c.args.e.now (SizedKind-F.Call c.in-Call.n c.in-Call.arguments) (c.in-Call.is ∙ sym (rolls-Call c.in-Call.n c.in-Call.arguments)) in
    λ κs b. (grind (arith, d), (b.0, (b.1, grind (arith, r))))

pub unsized_value-folded-requires : goal.unsized_value-folded-requires
unsized_value-folded-requires g t c =
    let d = depth_at c.args.e.now (SizedKind-F.Gate c.in-Gate.op c.in-Gate.inputs) (c.in-Gate.is ∙ sym (rolls-Gate c.in-Gate.op c.in-Gate.inputs)) in
    let r = room_at (rooms c.args.scene.now) c.args.e.now (SizedKind-F.Gate c.in-Gate.op c.in-Gate.inputs) (c.in-Gate.is ∙ sym (rolls-Gate c.in-Gate.op c.in-Gate.inputs)) in
    λ κs b. (grind (arith, d), (b.0, (b.1, grind (arith, r))))

pub unsized_value-gate_output-requires : goal.unsized_value-gate_output-requires
unsized_value-gate_output-requires g t c = ap length c.folded.ensures

pub unsized_value-returns-in-Gate : goal.unsized_value-returns-in-Gate
unsized_value-returns-in-Gate g t c =
    let op = c.in-Gate.op in
    let inputs = c.in-Gate.inputs in
    let scene = seen g.V.Value.fill g.T.Tables.values c.args.scene.now in
    let frame = map g.V.Value.bits c.args.frame.now in
    let bits = flat_map (input_in scene frame) inputs in
    let folded : g.V.Value.bits c.folded.result ≡ fold_inputs (gate_table op) (gate_start g.V.Value.fill op) bits ∷ [] = c.folded.ensures ∙ ap (λ xs. fold_inputs (gate_table op) (gate_start g.V.Value.fill op) (flat_map (input_in scene frame) xs) ∷ []) c.as_slice-in-Gate.ensures in
    let back : bits ≡ flat_map (λ (o : Operand). at_size 1 false o.bits) (map (operand_in scene frame) inputs) = sym (flat_map_map (λ (o : Operand). at_size 1 false o.bits) (operand_in scene frame) inputs) in
    ap (at_size c.args.e.now.width c.args.e.now.signed) (c.gate_output.ensures ∙ ap (λ b. gate_output op (upper_bit b) ∷ []) folded ∙ ap (λ b. b ∷ []) (gate_is g.V.Value.fill op bits) ∙ ap (λ bs. gate_bit g.V.Value.fill op bs ∷ []) back)
    ∙ sym (value_at_kind g.V.Value.fill (calls_of scene) (scene_values scene) frame c.args.e.now (SizedKind-F.Gate op inputs) (c.in-Gate.is ∙ sym (rolls-Gate op inputs)))

pub folded-value-input-requires : goal.folded-value-input-requires
folded-value-input-requires g t c =
    let d = most_item depth c.args.inputs.now c.loop-input.input-index c.input-item.result c.input-item.is (omega arith) in
    let r = most_item (expr_room (rooms c.args.scene.now)) c.args.inputs.now c.loop-input.input-index c.input-item.result c.input-item.is (omega arith) in
    λ κs b. (grind (arith, d), (b.0, (b.1, grind (arith, r))))

pub folded-loop-input-init : goal.folded-loop-input-init
folded-loop-input-init g t c = c.gate_start-so_far.ensures ∙ ap (λ b. b ∷ []) (fold_none (gate_table c.args.op) (gate_start g.V.Value.fill c.args.op))

pub folded-gate_table-so_far-requires-clause-input : goal.folded-gate_table-so_far-requires-clause-input
folded-gate_table-so_far-requires-clause-input g t c = ap length c.at_size.ensures ∙ at_size_length 1 false (g.V.Value.bits c.value-input.result)

pub folded-loop-input-preserved : goal.folded-loop-input-preserved
folded-loop-input-preserved g t c =
    let f = input_in (seen g.V.Value.fill g.T.Tables.values c.args.scene.now) (map g.V.Value.bits c.args.frame.now) in
    let xs = c.args.inputs.now in
    let i = c.loop-input.input-index in
    let op = c.args.op in
    let start = fold_inputs (gate_table op) (gate_start g.V.Value.fill op) (flat_map f (take i xs)) in
    let input : g.V.Value.bits c.at_size.result ≡ f c.input-item.result = c.at_size.ensures ∙ ap (at_size 1 false) c.value-input.ensures in
    let whole : f c.input-item.result ≡ upper_bit (f c.input-item.result) ∷ [] = one_bit (f c.input-item.result) (at_size_length 1 false _) in
    c.gate_table-so_far.ensures ∙ ap (λ b. gate_table op (upper_bit b) (upper_bit (g.V.Value.bits c.at_size.result)) ∷ []) c.loop-input.invariant
    ∙ ap (λ b. gate_table op start (upper_bit b) ∷ []) input
    ∙ sym (ap (λ b. b ∷ []) (ap (λ bs. fold_inputs (gate_table op) (gate_start g.V.Value.fill op) bs) (flat_take f xs i c.input-item.result c.input-item.is (omega arith) ∙ ap (λ bs. flat_map f (take i xs) ++ bs) whole)
    ∙ fold_more (gate_table op) (gate_start g.V.Value.fill op) (flat_map f (take i xs)) (upper_bit (f c.input-item.result))))

pub folded-returns : goal.folded-returns
folded-returns g t c =
    let whole = take_all c.loop-input.input-index c.args.inputs.now (omega arith) in
    c.loop-input.invariant ∙ ap (λ xs. fold_inputs (gate_table c.args.op) (gate_start g.V.Value.fill c.args.op) (flat_map (input_in (seen g.V.Value.fill g.T.Tables.values c.args.scene.now) (map g.V.Value.bits c.args.frame.now)) xs) ∷ []) whole

pub unsized_value-returns-in-Number : goal.unsized_value-returns-in-Number
unsized_value-returns-in-Number g t c =
    let v = value_at_kind g.V.Value.fill (calls_of (seen g.V.Value.fill g.T.Tables.values c.args.scene.now)) (scene_values (seen g.V.Value.fill g.T.Tables.values c.args.scene.now)) (map g.V.Value.bits c.args.frame.now) c.args.e.now (SizedKind-F.Number c.in-Number.bits) (c.in-Number.is ∙ sym (rolls-Number c.in-Number.bits)) in
    cc

pub unsized_value-returns-in-Name : goal.unsized_value-returns-in-Name
unsized_value-returns-in-Name g t c =
    let v = value_at_kind g.V.Value.fill (calls_of (seen g.V.Value.fill g.T.Tables.values c.args.scene.now)) (scene_values (seen g.V.Value.fill g.T.Tables.values c.args.scene.now)) (map g.V.Value.bits c.args.frame.now) c.args.e.now (SizedKind-F.Name c.in-Name.name) (c.in-Name.is ∙ sym (rolls-Name c.in-Name.name)) in
    cc

pub unsized_value-returns-in-Select : goal.unsized_value-returns-in-Select
unsized_value-returns-in-Select g t c =
    let v = value_at_kind g.V.Value.fill (calls_of (seen g.V.Value.fill g.T.Tables.values c.args.scene.now)) (scene_values (seen g.V.Value.fill g.T.Tables.values c.args.scene.now)) (map g.V.Value.bits c.args.frame.now) c.args.e.now (SizedKind-F.Select c.in-Select.name c.in-Select.low c.in-Select.count) (c.in-Select.is ∙ sym (rolls-Select c.in-Select.name c.in-Select.low c.in-Select.count)) in
    cc

pub unsized_value-returns-in-Index : goal.unsized_value-returns-in-Index
unsized_value-returns-in-Index g t c =
    rw (c.bit_at_place.ensures, c.index_place.ensures, c.named-in-Index.ensures, c.value-index.ensures, c.get.ensures) (sym (value_at_kind g.V.Value.fill (calls_of (seen g.V.Value.fill g.T.Tables.values c.args.scene.now)) (scene_values (seen g.V.Value.fill g.T.Tables.values c.args.scene.now)) (map g.V.Value.bits c.args.frame.now) c.args.e.now (SizedKind-F.Index c.in-Index.name c.in-Index.least c.in-Index.index) (c.in-Index.is ∙ sym (rolls-Index c.in-Index.name c.in-Index.least c.in-Index.index))))

pub unsized_value-returns-in-Word : goal.unsized_value-returns-in-Word
unsized_value-returns-in-Word g t c =
    ap (at_size c.args.e.now.width c.args.e.now.signed) (c.word.ensures ∙ ap (λ p. word_or_x g.V.Value.fill (bounded c.in-Word.memory.width) (word_at (scene_values (seen g.V.Value.fill g.T.Tables.values c.args.scene.now)) c.in-Word.memory.number (Some p))) c.from.ensures) ∙ sym (value_at_kind g.V.Value.fill (calls_of (seen g.V.Value.fill g.T.Tables.values c.args.scene.now)) (scene_values (seen g.V.Value.fill g.T.Tables.values c.args.scene.now)) (map g.V.Value.bits c.args.frame.now) c.args.e.now (SizedKind-F.Word c.in-Word.memory c.in-Word.place) (c.in-Word.is ∙ sym (rolls-Word c.in-Word.memory c.in-Word.place)))

pub unsized_value-returns-in-WordIndex : goal.unsized_value-returns-in-WordIndex
unsized_value-returns-in-WordIndex g t c =
    let v = value_at_kind g.V.Value.fill (calls_of (seen g.V.Value.fill g.T.Tables.values c.args.scene.now)) (scene_values (seen g.V.Value.fill g.T.Tables.values c.args.scene.now)) (map g.V.Value.bits c.args.frame.now) c.args.e.now (SizedKind-F.WordIndex c.in-WordIndex.memory c.in-WordIndex.least c.in-WordIndex.index) (c.in-WordIndex.is ∙ sym (rolls-WordIndex c.in-WordIndex.memory c.in-WordIndex.least c.in-WordIndex.index)) in
    cc

pub unsized_value-returns-in-Unary : goal.unsized_value-returns-in-Unary
unsized_value-returns-in-Unary g t c =
    let v = value_at_kind g.V.Value.fill (calls_of (seen g.V.Value.fill g.T.Tables.values c.args.scene.now)) (scene_values (seen g.V.Value.fill g.T.Tables.values c.args.scene.now)) (map g.V.Value.bits c.args.frame.now) c.args.e.now (SizedKind-F.Unary c.in-Unary.op c.in-Unary.a) (c.in-Unary.is ∙ sym (rolls-Unary c.in-Unary.op c.in-Unary.a)) in
    cc

pub unsized_value-returns-in-Binary : goal.unsized_value-returns-in-Binary
unsized_value-returns-in-Binary g t c =
    let v = value_at_kind g.V.Value.fill (calls_of (seen g.V.Value.fill g.T.Tables.values c.args.scene.now)) (scene_values (seen g.V.Value.fill g.T.Tables.values c.args.scene.now)) (map g.V.Value.bits c.args.frame.now) c.args.e.now (SizedKind-F.Binary c.in-Binary.op c.in-Binary.a c.in-Binary.b) (c.in-Binary.is ∙ sym (rolls-Binary c.in-Binary.op c.in-Binary.a c.in-Binary.b)) in
    cc

pub unsized_value-returns-in-Comparison : goal.unsized_value-returns-in-Comparison
unsized_value-returns-in-Comparison g t c =
    let one = operand_back g.V.Value.fill (calls_of (seen g.V.Value.fill g.T.Tables.values c.args.scene.now)) (scene_values (seen g.V.Value.fill g.T.Tables.values c.args.scene.now)) (map g.V.Value.bits c.args.frame.now) c.in-Comparison.a in
    let other = operand_back g.V.Value.fill (calls_of (seen g.V.Value.fill g.T.Tables.values c.args.scene.now)) (scene_values (seen g.V.Value.fill g.T.Tables.values c.args.scene.now)) (map g.V.Value.bits c.args.frame.now) c.in-Comparison.b in
    rw (c.compared.ensures, c.value-one.ensures, c.value-other.ensures, c.get-in-Comparison.ensures, c.get-in-Comparison-2.ensures, c.get-in-Comparison-3.ensures, c.get-in-Comparison-4.ensures, one, other)
    (sym (value_at_kind g.V.Value.fill (calls_of (seen g.V.Value.fill g.T.Tables.values c.args.scene.now)) (scene_values (seen g.V.Value.fill g.T.Tables.values c.args.scene.now)) (map g.V.Value.bits c.args.frame.now) c.args.e.now (SizedKind-F.Comparison c.in-Comparison.op c.in-Comparison.a c.in-Comparison.b) (c.in-Comparison.is ∙ sym (rolls-Comparison c.in-Comparison.op c.in-Comparison.a c.in-Comparison.b))))

pub unsized_value-returns-in-LogicalNot : goal.unsized_value-returns-in-LogicalNot
unsized_value-returns-in-LogicalNot g t c =
    let v = value_at_kind g.V.Value.fill (calls_of (seen g.V.Value.fill g.T.Tables.values c.args.scene.now)) (scene_values (seen g.V.Value.fill g.T.Tables.values c.args.scene.now)) (map g.V.Value.bits c.args.frame.now) c.args.e.now (SizedKind-F.LogicalNot c.in-LogicalNot.a) (c.in-LogicalNot.is ∙ sym (rolls-LogicalNot c.in-LogicalNot.a)) in
    cc

pub unsized_value-returns-in-Logical : goal.unsized_value-returns-in-Logical
unsized_value-returns-in-Logical g t c =
    let v = value_at_kind g.V.Value.fill (calls_of (seen g.V.Value.fill g.T.Tables.values c.args.scene.now)) (scene_values (seen g.V.Value.fill g.T.Tables.values c.args.scene.now)) (map g.V.Value.bits c.args.frame.now) c.args.e.now (SizedKind-F.Logical c.in-Logical.op c.in-Logical.a c.in-Logical.b) (c.in-Logical.is ∙ sym (rolls-Logical c.in-Logical.op c.in-Logical.a c.in-Logical.b)) in
    cc

pub unsized_value-returns-in-Reduction : goal.unsized_value-returns-in-Reduction
unsized_value-returns-in-Reduction g t c =
    let v = value_at_kind g.V.Value.fill (calls_of (seen g.V.Value.fill g.T.Tables.values c.args.scene.now)) (scene_values (seen g.V.Value.fill g.T.Tables.values c.args.scene.now)) (map g.V.Value.bits c.args.frame.now) c.args.e.now (SizedKind-F.Reduction c.in-Reduction.op c.in-Reduction.a) (c.in-Reduction.is ∙ sym (rolls-Reduction c.in-Reduction.op c.in-Reduction.a)) in
    cc

pub unsized_value-returns-in-Shift : goal.unsized_value-returns-in-Shift
unsized_value-returns-in-Shift g t c =
    let v = value_at_kind g.V.Value.fill (calls_of (seen g.V.Value.fill g.T.Tables.values c.args.scene.now)) (scene_values (seen g.V.Value.fill g.T.Tables.values c.args.scene.now)) (map g.V.Value.bits c.args.frame.now) c.args.e.now (SizedKind-F.Shift c.in-Shift.op c.in-Shift.a c.in-Shift.amount) (c.in-Shift.is ∙ sym (rolls-Shift c.in-Shift.op c.in-Shift.a c.in-Shift.amount)) in
    cc

pub unsized_value-returns-in-Conditional : goal.unsized_value-returns-in-Conditional
unsized_value-returns-in-Conditional g t c =
    let scene = seen g.V.Value.fill g.T.Tables.values c.args.scene.now in
    let frame = map g.V.Value.bits c.args.frame.now in
    let e = c.args.e.now in
    let sized = λ (e' : SizedExpr). at_size e.width e.signed (bits_in scene frame e') in
    let test = c.value-test.ensures ∙ ap (bits_in scene frame) c.get-in-Conditional.ensures in
    ap (at_size e.width e.signed) (c.chosen.ensures ∙ ap (λ v. choose_bits (truth_bit v) (sized c.get-in-Conditional-2.result.now) (sized c.get-in-Conditional-3.result.now)) test
    ∙ ap (λ a. choose_bits (truth_bit (bits_in scene frame c.in-Conditional.test)) (sized a) (sized c.get-in-Conditional-3.result.now)) c.get-in-Conditional-2.ensures
    ∙ ap (λ b. choose_bits (truth_bit (bits_in scene frame c.in-Conditional.test)) (sized c.in-Conditional.a) (sized b)) c.get-in-Conditional-3.ensures)
    ∙ sym (value_at_kind scene.fill (calls_of scene) (scene_values scene) frame e (SizedKind-F.Conditional c.in-Conditional.test c.in-Conditional.a c.in-Conditional.b) (c.in-Conditional.is ∙ sym (rolls-Conditional c.in-Conditional.test c.in-Conditional.a c.in-Conditional.b)))

pub unsized_value-returns-in-Concat : goal.unsized_value-returns-in-Concat
unsized_value-returns-in-Concat g t c =
    ap (at_size c.args.e.now.width c.args.e.now.signed) c.filled.ensures ∙ filled_size c.args.e.now.width c.args.e.now.signed (option_map g.V.Value.bits c.concat.result)
    ∙ ap (at_size c.args.e.now.width c.args.e.now.signed) (c.concat.ensures ∙ ap (λ xs. lowest (flat_map (bits_in (seen g.V.Value.fill g.T.Tables.values c.args.scene.now) (map g.V.Value.bits c.args.frame.now)) xs)) c.as_slice.ensures)
    ∙ lowest_size c.args.e.now.width c.args.e.now.signed (flat_map (bits_in (seen g.V.Value.fill g.T.Tables.values c.args.scene.now) (map g.V.Value.bits c.args.frame.now)) c.in-Concat.parts)
    ∙ ap (at_size c.args.e.now.width c.args.e.now.signed) (sym (flat_map_map (λ (o : Operand). o.bits) (operand_in (seen g.V.Value.fill g.T.Tables.values c.args.scene.now) (map g.V.Value.bits c.args.frame.now)) c.in-Concat.parts)) ∙ sym (value_at_kind g.V.Value.fill (calls_of (seen g.V.Value.fill g.T.Tables.values c.args.scene.now)) (scene_values (seen g.V.Value.fill g.T.Tables.values c.args.scene.now)) (map g.V.Value.bits c.args.frame.now) c.args.e.now (SizedKind-F.Concat c.in-Concat.parts) (c.in-Concat.is ∙ sym (rolls-Concat c.in-Concat.parts)))

pub unsized_value-returns-in-Replicate : goal.unsized_value-returns-in-Replicate
unsized_value-returns-in-Replicate g t c =
    let a = c.value-a-in-Replicate.ensures ∙ ap (bits_in (seen g.V.Value.fill g.T.Tables.values c.args.scene.now) (map g.V.Value.bits c.args.frame.now)) c.get-in-Replicate.ensures in
    ap (at_size c.args.e.now.width c.args.e.now.signed) c.filled-in-Replicate.ensures ∙ filled_size c.args.e.now.width c.args.e.now.signed (option_map g.V.Value.bits c.repeated.result)
    ∙ ap (at_size c.args.e.now.width c.args.e.now.signed) (c.repeated.ensures ∙ ap (λ b. lowest (repeated c.in-Replicate.count b)) a)
    ∙ lowest_size c.args.e.now.width c.args.e.now.signed (repeated c.in-Replicate.count (bits_in (seen g.V.Value.fill g.T.Tables.values c.args.scene.now) (map g.V.Value.bits c.args.frame.now) c.in-Replicate.a)) ∙ sym (value_at_kind g.V.Value.fill (calls_of (seen g.V.Value.fill g.T.Tables.values c.args.scene.now)) (scene_values (seen g.V.Value.fill g.T.Tables.values c.args.scene.now)) (map g.V.Value.bits c.args.frame.now) c.args.e.now (SizedKind-F.Replicate c.in-Replicate.count c.in-Replicate.a) (c.in-Replicate.is ∙ sym (rolls-Replicate c.in-Replicate.count c.in-Replicate.a)))

pub unsized_value-returns-in-Call : goal.unsized_value-returns-in-Call
unsized_value-returns-in-Call g t c =
    let v = value_at_kind g.V.Value.fill (calls_of (seen g.V.Value.fill g.T.Tables.values c.args.scene.now)) (scene_values (seen g.V.Value.fill g.T.Tables.values c.args.scene.now)) (map g.V.Value.bits c.args.frame.now) c.args.e.now (SizedKind-F.Call c.in-Call.n c.in-Call.arguments) (c.in-Call.is ∙ sym (rolls-Call c.in-Call.n c.in-Call.arguments)) in
    cc

pub values-slice_bounds-value-count : goal.values-slice_bounds-value-count
values-slice_bounds-value-count g t c = omega (arith, staged_long (expr_room (rooms c.args.scene.now)) c.args.exprs.now)

pub values-slice_bounds-value-start : goal.values-slice_bounds-value-start
values-slice_bounds-value-start g t c = omega (arith, staged_long (expr_room (rooms c.args.scene.now)) c.args.exprs.now)

pub values-value-requires : goal.values-value-requires
values-value-requires g t c =
    let d = most_item depth c.args.exprs.now c.loop-i.i c.index-exprs-i.result c.index-exprs-i.is (omega arith) in
    let r = staged_item (expr_room (rooms c.args.scene.now)) c.args.exprs.now c.loop-i.i c.index-exprs-i.result c.index-exprs-i.is (omega arith) in
    λ κs b. (grind (arith, d), (b.0, (b.1, omega (arith, r, length-take (length c.loop-i.room - c.loop-i.i) (drop c.loop-i.i c.loop-i.room), length-drop c.loop-i.i c.loop-i.room))))

pub values-bounds-room-i : goal.values-bounds-room-i
values-bounds-room-i g t c = omega (arith, staged_long (expr_room (rooms c.args.scene.now)) c.args.exprs.now)

pub values-loop-i-preserved : goal.values-loop-i-preserved
values-loop-i-preserved g t c =
    kept_more g.V.Value.bits (bits_in (seen g.V.Value.fill g.T.Tables.values c.args.scene.now) (map g.V.Value.bits c.args.frame.now)) c.args.exprs.now c.loop-i.room _ c.loop-i.i c.index-exprs-i.result c.value.result c.index-exprs-i.is (omega arith) (omega (arith, staged_long (expr_room (rooms c.args.scene.now)) c.args.exprs.now)) (omega (arith, staged_long (expr_room (rooms c.args.scene.now)) c.args.exprs.now, length-append (take c.loop-i.i c.loop-i.room) c.value.new.room, length-take c.loop-i.i c.loop-i.room)) c.loop-i.invariant c.value.ensures

pub values-returns : goal.values-returns
values-returns g t c =
    let whole = take_all c.loop-i.i c.args.exprs.now (omega arith) in
    let count : length c.args.exprs.now ≡ c.loop-i.i = omega arith in
    rw count (c.loop-i.invariant ∙ ap (map (bits_in (seen g.V.Value.fill g.T.Tables.values c.args.scene.now) (map g.V.Value.bits c.args.frame.now))) whole)

pub indices-part_index-requires : goal.indices-part_index-requires
indices-part_index-requires g t c =
    let d = most_item part_depth c.args.parts.now c.loop-i.i c.index-parts-i.result c.index-parts-i.is (omega arith) in
    let r = staged_item (part_room c.args.scene.now) c.args.parts.now c.loop-i.i c.index-parts-i.result c.index-parts-i.is (omega arith) in
    λ κs b. (grind (arith, d), (b.0, (b.1, omega (arith, r, length-take (length c.loop-i.room - c.loop-i.i) (drop c.loop-i.i c.loop-i.room), length-drop c.loop-i.i c.loop-i.room))))

pub indices-slice_bounds-part_index-count : goal.indices-slice_bounds-part_index-count
indices-slice_bounds-part_index-count g t c = omega (arith, staged_long (part_room c.args.scene.now) c.args.parts.now)

pub indices-slice_bounds-part_index-start : goal.indices-slice_bounds-part_index-start
indices-slice_bounds-part_index-start g t c = omega (arith, staged_long (part_room c.args.scene.now) c.args.parts.now)

pub concat-loop-part-init : goal.concat-loop-part-init
unfolding lowest
concat-loop-part-init g t c = refl

pub concat-loop-part-preserved : goal.concat-loop-part-preserved
concat-loop-part-preserved g t c =
    let f = bits_in (seen g.V.Value.fill g.T.Tables.values c.args.scene.now) (map g.V.Value.bits c.args.frame.now) in
    let xs = c.args.parts.now in
    let i = c.loop-part.part-index in
    c.joined.ensures ∙ ap (λ b. lowest (b ++ g.V.Value.bits c.value.result)) c.loop-part.invariant ∙ lowest_again (flat_map f (take i xs)) (g.V.Value.bits c.value.result)
    ∙ ap (λ b. lowest (flat_map f (take i xs) ++ b)) c.value.ensures ∙ ap lowest (sym (flat_take f xs i c.part-item.result c.part-item.is (omega arith)))

pub has_label-loop-label-preserved : goal.has_label-loop-label-preserved
has_label-loop-label-preserved g t c =
    let size = c.args.size in
    let tested = at_size size.width size.signed (g.V.Value.bits c.args.tested) in
    let is = ap (λ v. is_1 (identical_bit tested (at_size size.width size.signed v))) c.value-other.ensures in
    let test = sym (c.is_identical.ensures ∙ is) ∙ c.if-is_identical.false in
    any_past (λ label. is_1 (identical_bit tested (bits_at (seen g.V.Value.fill g.T.Tables.values c.args.scene.now) (map g.V.Value.bits c.args.frame.now) size label))) c.args.labels.now c.loop-label.label-index c.label-item.result c.label-item.is (omega arith) test ∙ c.loop-label.invariant

pub indices-loop-i-preserved : goal.indices-loop-i-preserved
indices-loop-i-preserved g t c =
    kept_more g.V.Value.bits (index_in (seen g.V.Value.fill g.T.Tables.values c.args.scene.now) (map g.V.Value.bits c.args.frame.now)) c.args.parts.now c.loop-i.room _ c.loop-i.i c.index-parts-i.result c.part_index.result c.index-parts-i.is (omega arith) (omega (arith, staged_long (part_room c.args.scene.now) c.args.parts.now)) (omega (arith, staged_long (part_room c.args.scene.now) c.args.parts.now, length-append (take c.loop-i.i c.loop-i.room) c.part_index.new.room, length-take c.loop-i.i c.loop-i.room)) c.loop-i.invariant c.part_index.ensures

pub part_index-returns-in-Bits : goal.part_index-returns-in-Bits
unfolding index_in
part_index-returns-in-Bits g t c = c.nothing.ensures ∙ sym (ap (index_bits g.V.Value.fill (operand_in (seen g.V.Value.fill g.T.Tables.values c.args.scene.now) (map g.V.Value.bits c.args.frame.now))) c.in-Bits.is)

pub part_index-returns-in-Index : goal.part_index-returns-in-Index
unfolding index_in
part_index-returns-in-Index g t c = c.value.ensures ∙ sym (ap (index_bits g.V.Value.fill (operand_in (seen g.V.Value.fill g.T.Tables.values c.args.scene.now) (map g.V.Value.bits c.args.frame.now))) c.in-Index.is)

pub part_index-returns-in-Word : goal.part_index-returns-in-Word
unfolding index_in
part_index-returns-in-Word g t c = c.value-in-Word.ensures ∙ sym (ap (index_bits g.V.Value.fill (operand_in (seen g.V.Value.fill g.T.Tables.values c.args.scene.now) (map g.V.Value.bits c.args.frame.now))) c.in-Word.is)

pub item_taken-returns : goal.item_taken-returns
item_taken-returns g t c =
    let scene = seen g.V.Value.fill g.T.Tables.values c.args.scene.now in
    let frame = map g.V.Value.bits c.args.frame.now in
    let tested = c.args.tested.now in
    let items = c.args.items.now in
    let taken = λ (s : Size) (v : List Bit). first_branch (bits_at scene frame s) (at_size s.width s.signed v) (numbered 0 items) None in
    c.first_item.ensures ∙ ap (taken c.case_size-size.result) c.value-tested.ensures ∙ ap (λ s. taken s (bits_in scene frame tested)) c.case_size-size.ensures
    ∙ ap (λ ls. taken (common (tested ∷ ls)) (bits_in scene frame tested)) (sym (labels_of_numbered 0 items))

pub first_item-has_label-requires : goal.first_item-has_label-requires
first_item-has_label-requires g t c =
    let d = most_item labels_depth c.args.items.now c.loop-i.i c.index-items-i.result c.index-items-i.is (omega arith) in
    let r = most_item (labels_room (rooms c.args.scene.now)) c.args.items.now c.loop-i.i c.index-items-i.result c.index-items-i.is (omega arith) in
    λ κs b. (grind (arith, d), (b.0, (b.1, grind (arith, r))))

pub first_item-returns-then-has_label : goal.first_item-returns-then-has_label
first_item-returns-then-has_label g t c =
    let value = bits_at (seen g.V.Value.fill g.T.Tables.values c.args.scene.now) (map g.V.Value.bits c.args.frame.now) c.args.size in
    let tested = at_size c.args.size.width c.args.size.signed (g.V.Value.bits c.args.tested) in
    let i = c.loop-i.i in
    let item = c.index-items-i.result in
    let has : has_label value tested item.labels ≡ true = sym (ap (has_label value tested) c.as_slice.ensures) ∙ sym c.has_label.ensures ∙ c.if-has_label.true in
    let split = drop_item c.args.items.now i item c.index-items-i.is (omega arith) in
    let here = ap (λ b. cond b (Some i) (first_branch value tested (numbered (suc i) (drop (i + 1) c.args.items.now)) None)) has in
    sym (ap (λ xs. first_branch value tested (numbered i xs) None) split ∙ here) ∙ c.loop-i.invariant

pub first_item-loop-i-preserved : goal.first_item-loop-i-preserved
first_item-loop-i-preserved g t c =
    let value = bits_at (seen g.V.Value.fill g.T.Tables.values c.args.scene.now) (map g.V.Value.bits c.args.frame.now) c.args.size in
    let tested = at_size c.args.size.width c.args.size.signed (g.V.Value.bits c.args.tested) in
    let i = c.loop-i.i in
    let item = c.index-items-i.result in
    let has : has_label value tested item.labels ≡ false = sym (ap (has_label value tested) c.as_slice.ensures) ∙ sym c.has_label.ensures ∙ c.if-has_label.false in
    let split = drop_item c.args.items.now i item c.index-items-i.is (omega arith) in
    let here = ap (λ b. cond b (Some i) (first_branch value tested (numbered (suc i) (drop (i + 1) c.args.items.now)) None)) has in
    ap (λ k. first_branch value tested (numbered k (drop (i + 1) c.args.items.now)) None) (add-one i)
    ∙ sym (ap (λ xs. first_branch value tested (numbered i xs) None) split ∙ here) ∙ c.loop-i.invariant

pub first_item-returns : goal.first_item-returns
first_item-returns g t c =
    let value = bits_at (seen g.V.Value.fill g.T.Tables.values c.args.scene.now) (map g.V.Value.bits c.args.frame.now) c.args.size in
    let tested = at_size c.args.size.width c.args.size.signed (g.V.Value.bits c.args.tested) in
    sym (ap (λ xs. first_branch value tested (numbered c.loop-i.i xs) None) (drop_past c.loop-i.i c.args.items.now (omega arith))) ∙ c.loop-i.invariant

pub run-item_taken-taken-requires : goal.run-item_taken-taken-requires
run-item_taken-taken-requires g t c =
    let d = statement_depth_at c.args.statement.now (Statement-F.Case c.in-Case.tested c.in-Case.items c.in-Case.otherwise) (c.in-Case.is ∙ sym (rolls-Case c.in-Case.tested c.in-Case.items c.in-Case.otherwise)) in
    let r = statement_room_at (rooms c.args.scene.now) c.args.statement.now (Statement-F.Case c.in-Case.tested c.in-Case.items c.in-Case.otherwise) (c.in-Case.is ∙ sym (rolls-Case c.in-Case.tested c.in-Case.items c.in-Case.otherwise)) in
    let dl = labels_depth_below c.in-Case.items in
    let rl = labels_room_below (rooms c.args.scene.now) c.in-Case.items in
    λ κs b. (grind (arith, d, dl), (b.0, (b.1, (grind (arith, r), grind (arith, r, rl)))))

pub run-run-requires-in-Some : goal.run-run-requires-in-Some
run-run-requires-in-Some g t c =
    let is = c.in-Case.is ∙ sym (rolls-Case c.in-Case.tested c.in-Case.items c.in-Case.otherwise) in
    let number = c.item_taken-taken.result in
    let found = sym (ap (λ xs. option_and_then (slice_get xs) number) c.as_slice-items.ensures) ∙ c.in-Some.ensures in
    let d = body_depth_below c.args.statement.now c.in-Case.tested c.in-Case.items c.in-Case.otherwise number c.in-Some.item.now is found in
    let r = body_room_below (rooms c.args.scene.now) c.args.statement.now c.in-Case.tested c.in-Case.items c.in-Case.otherwise number c.in-Some.item.now is found in
    λ κs b. (grind (arith, d), (b.0, (b.1, grind (arith, r))))

pub run-run-requires-in-None : goal.run-run-requires-in-None
run-run-requires-in-None g t c =
    let d = statement_depth_at c.args.statement.now (Statement-F.Case c.in-Case.tested c.in-Case.items c.in-Case.otherwise) (c.in-Case.is ∙ sym (rolls-Case c.in-Case.tested c.in-Case.items c.in-Case.otherwise)) in
    let r = statement_room_at (rooms c.args.scene.now) c.args.statement.now (Statement-F.Case c.in-Case.tested c.in-Case.items c.in-Case.otherwise) (c.in-Case.is ∙ sym (rolls-Case c.in-Case.tested c.in-Case.items c.in-Case.otherwise)) in
    λ κs b. (grind (arith, d), (b.0, (b.1, grind (arith, r))))

pub run-returns-in-Some : goal.run-returns-in-Some
run-returns-in-Some g t c =
    let scene = seen g.V.Value.fill g.T.Tables.values c.args.scene.now in
    let frame = map g.V.Value.bits c.args.frame.now in
    let items = c.in-Case.items in
    let number = c.item_taken-taken.result in
    let taken = c.item_taken-taken.ensures ∙ ap (item_taken (operand_in scene frame) c.in-Case.tested) c.as_slice-items.ensures in
    let whole = case_at scene.fill (calls_of scene) (scene_values scene) frame c.args.statement.now c.in-Case.tested items c.in-Case.otherwise number (c.in-Case.is ∙ sym (rolls-Case c.in-Case.tested items c.in-Case.otherwise)) taken in
    let item = c.in-Some.item.now in
    let found : option_and_then (slice_get items) number ≡ Some item = sym (ap (λ xs. option_and_then (slice_get xs) number) c.as_slice-items.ensures) ∙ c.in-Some.ensures in
    let body : (branch_in scene item).body ≡ run_in scene item.body = ap (λ (b : Branch). b.body) (branch_at scene.fill (calls_of scene) (scene_values scene) item) in
    c.run-in-Some.ensures ∙ sym (whole ∙ ap (λ o. body_of (branch_in scene) o (run_in scene c.in-Case.otherwise) frame) found ∙ ap (λ (f : Frame → Frame). f frame) body)

pub run-returns-in-None : goal.run-returns-in-None
run-returns-in-None g t c =
    let scene = seen g.V.Value.fill g.T.Tables.values c.args.scene.now in
    let frame = map g.V.Value.bits c.args.frame.now in
    let items = c.in-Case.items in
    let number = c.item_taken-taken.result in
    let taken = c.item_taken-taken.ensures ∙ ap (item_taken (operand_in scene frame) c.in-Case.tested) c.as_slice-items.ensures in
    let whole = case_at scene.fill (calls_of scene) (scene_values scene) frame c.args.statement.now c.in-Case.tested items c.in-Case.otherwise number (c.in-Case.is ∙ sym (rolls-Case c.in-Case.tested items c.in-Case.otherwise)) taken in
    let found : option_and_then (slice_get items) number ≡ None = sym (ap (λ xs. option_and_then (slice_get xs) number) c.as_slice-items.ensures) ∙ c.in-None.ensures in
    c.run-in-None.ensures ∙ ap (λ s. run_in scene s frame) c.get-in-None.ensures ∙ sym (whole ∙ ap (λ o. body_of (branch_in scene) o (run_in scene c.in-Case.otherwise) frame) found)
