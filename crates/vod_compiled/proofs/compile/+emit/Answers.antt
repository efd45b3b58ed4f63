-- The steps of each kind of expression, by its equation.
use Rattle.std.proofs.Common.{◌≡◌, ◌∙◌, ◌-◌, suc, ◌∷◌, map, reverse, length, sym, ap, arith}
use Rattle.std.proofs.lemmas.List.{length-reverse}
use Rattle.vod_design.specs.declared.sized.SizedKind.TheOpen.{SizedKind-F}
use Rattle.vod_design.specs.declared.sized.SizedKind.TheVariants.{rolls-Number, rolls-Name, rolls-Select, rolls-Index, rolls-Word, rolls-WordIndex, rolls-Unary, rolls-Binary, rolls-Comparison, rolls-LogicalNot, rolls-Logical, rolls-Reduction, rolls-Shift, rolls-Conditional, rolls-Concat, rolls-Replicate, rolls-Call, rolls-Gate}
use Rattle.vod_compiled.specs.declared.step.Op.TheVariants as op
use Rattle.vod_compiled.specs.Code.{Coded, step_at, name_source, coded, conditional_steps, concat_steps, gate_steps, inputs_steps}
use Rattle.vod_eval.specs.Room.{most}
use Rattle.vod_compiled.proofs.Emit.{conditional_emitted, joined_more, inputs_more, depths_left}
use Rattle.vod_compiled.proofs.Layers.{depth, coded_at, depth_at}
use Rattle.vod_compiled.proofs.compile.+emit.Goals as goal

pub emit-emit_before-requires : goal.emit-emit_before-requires
emit-emit_before-requires t c =
    let d = depth_at c.args.e.now (SizedKind-F.Index c.in-Index.name c.in-Index.least c.in-Index.index) (c.in-Index.is ∙ sym (rolls-Index c.in-Index.name c.in-Index.least c.in-Index.index)) in
    (grind (arith, d), tt)

pub emit-emit_before-requires-in-WordIndex : goal.emit-emit_before-requires-in-WordIndex
emit-emit_before-requires-in-WordIndex t c =
    let d = depth_at c.args.e.now (SizedKind-F.WordIndex c.in-WordIndex.memory c.in-WordIndex.least c.in-WordIndex.index) (c.in-WordIndex.is ∙ sym (rolls-WordIndex c.in-WordIndex.memory c.in-WordIndex.least c.in-WordIndex.index)) in
    (grind (arith, d), tt)

pub emit-emit_before-requires-in-Unary : goal.emit-emit_before-requires-in-Unary
emit-emit_before-requires-in-Unary t c =
    let d = depth_at c.args.e.now (SizedKind-F.Unary c.in-Unary.op c.in-Unary.a) (c.in-Unary.is ∙ sym (rolls-Unary c.in-Unary.op c.in-Unary.a)) in
    (grind (arith, d), tt)

pub emit-emit_before-requires-in-Binary : goal.emit-emit_before-requires-in-Binary
emit-emit_before-requires-in-Binary t c =
    let d = depth_at c.args.e.now (SizedKind-F.Binary c.in-Binary.op c.in-Binary.a c.in-Binary.b) (c.in-Binary.is ∙ sym (rolls-Binary c.in-Binary.op c.in-Binary.a c.in-Binary.b)) in
    (grind (arith, d), tt)

pub emit-emit-requires : goal.emit-emit-requires
emit-emit-requires t c =
    let d = depth_at c.args.e.now (SizedKind-F.Binary c.in-Binary.op c.in-Binary.a c.in-Binary.b) (c.in-Binary.is ∙ sym (rolls-Binary c.in-Binary.op c.in-Binary.a c.in-Binary.b)) in
    (grind (arith, d), tt)

pub emit-emit_before-requires-in-Comparison : goal.emit-emit_before-requires-in-Comparison
emit-emit_before-requires-in-Comparison t c =
    let d = depth_at c.args.e.now (SizedKind-F.Comparison c.in-Comparison.op c.in-Comparison.a c.in-Comparison.b) (c.in-Comparison.is ∙ sym (rolls-Comparison c.in-Comparison.op c.in-Comparison.a c.in-Comparison.b)) in
    (grind (arith, d), tt)

pub emit-emit-requires-in-Comparison : goal.emit-emit-requires-in-Comparison
emit-emit-requires-in-Comparison t c =
    let d = depth_at c.args.e.now (SizedKind-F.Comparison c.in-Comparison.op c.in-Comparison.a c.in-Comparison.b) (c.in-Comparison.is ∙ sym (rolls-Comparison c.in-Comparison.op c.in-Comparison.a c.in-Comparison.b)) in
    (grind (arith, d), tt)

pub emit-emit_before-requires-in-LogicalNot : goal.emit-emit_before-requires-in-LogicalNot
emit-emit_before-requires-in-LogicalNot t c =
    let d = depth_at c.args.e.now (SizedKind-F.LogicalNot c.in-LogicalNot.a) (c.in-LogicalNot.is ∙ sym (rolls-LogicalNot c.in-LogicalNot.a)) in
    (grind (arith, d), tt)

pub emit-emit_before-requires-in-Logical : goal.emit-emit_before-requires-in-Logical
emit-emit_before-requires-in-Logical t c =
    let d = depth_at c.args.e.now (SizedKind-F.Logical c.in-Logical.op c.in-Logical.a c.in-Logical.b) (c.in-Logical.is ∙ sym (rolls-Logical c.in-Logical.op c.in-Logical.a c.in-Logical.b)) in
    (grind (arith, d), tt)

pub emit-emit-requires-in-Logical : goal.emit-emit-requires-in-Logical
emit-emit-requires-in-Logical t c =
    let d = depth_at c.args.e.now (SizedKind-F.Logical c.in-Logical.op c.in-Logical.a c.in-Logical.b) (c.in-Logical.is ∙ sym (rolls-Logical c.in-Logical.op c.in-Logical.a c.in-Logical.b)) in
    (grind (arith, d), tt)

pub emit-emit_before-requires-in-Reduction : goal.emit-emit_before-requires-in-Reduction
emit-emit_before-requires-in-Reduction t c =
    let d = depth_at c.args.e.now (SizedKind-F.Reduction c.in-Reduction.op c.in-Reduction.a) (c.in-Reduction.is ∙ sym (rolls-Reduction c.in-Reduction.op c.in-Reduction.a)) in
    (grind (arith, d), tt)

pub emit-emit_before-requires-in-Shift : goal.emit-emit_before-requires-in-Shift
emit-emit_before-requires-in-Shift t c =
    let d = depth_at c.args.e.now (SizedKind-F.Shift c.in-Shift.op c.in-Shift.a c.in-Shift.amount) (c.in-Shift.is ∙ sym (rolls-Shift c.in-Shift.op c.in-Shift.a c.in-Shift.amount)) in
    (grind (arith, d), tt)

pub emit-emit-requires-in-Shift : goal.emit-emit-requires-in-Shift
emit-emit-requires-in-Shift t c =
    let d = depth_at c.args.e.now (SizedKind-F.Shift c.in-Shift.op c.in-Shift.a c.in-Shift.amount) (c.in-Shift.is ∙ sym (rolls-Shift c.in-Shift.op c.in-Shift.a c.in-Shift.amount)) in
    (grind (arith, d), tt)

pub emit-emit_before-requires-in-Conditional : goal.emit-emit_before-requires-in-Conditional
emit-emit_before-requires-in-Conditional t c =
    let d = depth_at c.args.e.now (SizedKind-F.Conditional c.in-Conditional.test c.in-Conditional.a c.in-Conditional.b) (c.in-Conditional.is ∙ sym (rolls-Conditional c.in-Conditional.test c.in-Conditional.a c.in-Conditional.b)) in
    (grind (arith, d), tt)

pub emit-emit_before-requires-in-Conditional-2 : goal.emit-emit_before-requires-in-Conditional-2
emit-emit_before-requires-in-Conditional-2 t c =
    let d = depth_at c.args.e.now (SizedKind-F.Conditional c.in-Conditional.test c.in-Conditional.a c.in-Conditional.b) (c.in-Conditional.is ∙ sym (rolls-Conditional c.in-Conditional.test c.in-Conditional.a c.in-Conditional.b)) in
    (grind (arith, d), tt)

pub emit-emit_before-requires-in-Conditional-3 : goal.emit-emit_before-requires-in-Conditional-3
emit-emit_before-requires-in-Conditional-3 t c =
    let d = depth_at c.args.e.now (SizedKind-F.Conditional c.in-Conditional.test c.in-Conditional.a c.in-Conditional.b) (c.in-Conditional.is ∙ sym (rolls-Conditional c.in-Conditional.test c.in-Conditional.a c.in-Conditional.b)) in
    (grind (arith, d), tt)

pub emit-emit_concat-requires : goal.emit-emit_concat-requires
emit-emit_concat-requires t c =
    let d = depth_at c.args.e.now (SizedKind-F.Concat c.in-Concat.parts) (c.in-Concat.is ∙ sym (rolls-Concat c.in-Concat.parts)) in
    (grind (arith, d), tt)

pub emit-emit_before-requires-in-Replicate : goal.emit-emit_before-requires-in-Replicate
emit-emit_before-requires-in-Replicate t c =
    let d = depth_at c.args.e.now (SizedKind-F.Replicate c.in-Replicate.count c.in-Replicate.a) (c.in-Replicate.is ∙ sym (rolls-Replicate c.in-Replicate.count c.in-Replicate.a)) in
    (grind (arith, d), tt)

pub emit-emit_inputs-requires : goal.emit-emit_inputs-requires
emit-emit_inputs-requires t c =
    let d = depth_at c.args.e.now (SizedKind-F.Gate c.in-Gate.op c.in-Gate.inputs) (c.in-Gate.is ∙ sym (rolls-Gate c.in-Gate.op c.in-Gate.inputs)) in
    (grind (arith, d), tt)

pub emit-returns-in-Number : goal.emit-returns-in-Number
emit-returns-in-Number t c =
    let k : (coded c.args.e.now).steps c.args.first ((reverse c.args.steps.now.items)) ≡ reverse c.args.steps.now.items = ap (λ (x : Coded). x.steps c.args.first ((reverse c.args.steps.now.items))) (coded_at c.args.e.now (SizedKind-F.Number c.in-Number.field-0) (c.in-Number.is ∙ sym (rolls-Number c.in-Number.field-0))) in
    sym k

pub emit-returns-in-Name : goal.emit-returns-in-Name
emit-returns-in-Name t c =
    let k : (coded c.args.e.now).steps c.args.first ((reverse c.args.steps.now.items)) ≡ reverse c.args.steps.now.items = ap (λ (x : Coded). x.steps c.args.first ((reverse c.args.steps.now.items))) (coded_at c.args.e.now (SizedKind-F.Name c.in-Name.field-0) (c.in-Name.is ∙ sym (rolls-Name c.in-Name.field-0))) in
    sym k

pub emit-returns-in-Call : goal.emit-returns-in-Call
emit-returns-in-Call t c =
    let k : (coded c.args.e.now).steps c.args.first ((reverse c.args.steps.now.items)) ≡ reverse c.args.steps.now.items = ap (λ (x : Coded). x.steps c.args.first ((reverse c.args.steps.now.items))) (coded_at c.args.e.now (SizedKind-F.Call c.in-Call.field-0 c.in-Call.field-1) (c.in-Call.is ∙ sym (rolls-Call c.in-Call.field-0 c.in-Call.field-1))) in
    sym k

pub emit-returns-in_ok-push-in-Select : goal.emit-returns-in_ok-push-in-Select
emit-returns-in_ok-push-in-Select t c =
    let k : (coded c.args.e.now).steps c.args.first ((reverse c.args.steps.now.items)) ≡ step_at c.args.first c.args.e.now.width c.args.e.now.signed (op.Select (name_source c.in-Select.name) c.in-Select.low c.in-Select.count) ∷ reverse c.args.steps.now.items = ap (λ (x : Coded). x.steps c.args.first ((reverse c.args.steps.now.items))) (coded_at c.args.e.now (SizedKind-F.Select c.in-Select.name c.in-Select.low c.in-Select.count) (c.in-Select.is ∙ sym (rolls-Select c.in-Select.name c.in-Select.low c.in-Select.count))) in
    c.in_ok-push-in-Select.ensures
    ∙ ap (λ s. s ∷ (reverse c.args.steps.now.items)) (c.step.ensures ∙ ap (step_at c.args.first c.args.e.now.width c.args.e.now.signed) (c.select.ensures ∙ ap (λ x. op.Select x c.in-Select.low c.in-Select.count) c.name_source.ensures))
    ∙ sym k

pub emit-returns-in_ok-push-in-Word : goal.emit-returns-in_ok-push-in-Word
emit-returns-in_ok-push-in-Word t c =
    let k : (coded c.args.e.now).steps c.args.first ((reverse c.args.steps.now.items)) ≡ step_at c.args.first c.args.e.now.width c.args.e.now.signed (op.Word c.in-Word.memory c.in-Word.place) ∷ reverse c.args.steps.now.items = ap (λ (x : Coded). x.steps c.args.first ((reverse c.args.steps.now.items))) (coded_at c.args.e.now (SizedKind-F.Word c.in-Word.memory c.in-Word.place) (c.in-Word.is ∙ sym (rolls-Word c.in-Word.memory c.in-Word.place))) in
    c.in_ok-push-in-Word.ensures
    ∙ ap (λ s. s ∷ (reverse c.args.steps.now.items)) (c.step-in-Word.ensures ∙ ap (step_at c.args.first c.args.e.now.width c.args.e.now.signed) c.word.ensures)
    ∙ sym k

pub emit-returns-in_ok-emit_before-in-Index : goal.emit-returns-in_ok-emit_before-in-Index
emit-returns-in_ok-emit_before-in-Index t c =
    let k : (coded c.args.e.now).steps c.args.first ((reverse c.args.steps.now.items)) ≡ (coded c.in-Index.index).steps c.args.first (step_at c.args.first c.args.e.now.width c.args.e.now.signed (op.Index (name_source c.in-Index.name) c.in-Index.least ((coded c.in-Index.index).input c.args.first)) ∷ reverse c.args.steps.now.items) = ap (λ (x : Coded). x.steps c.args.first ((reverse c.args.steps.now.items))) (coded_at c.args.e.now (SizedKind-F.Index c.in-Index.name c.in-Index.least c.in-Index.index) (c.in-Index.is ∙ sym (rolls-Index c.in-Index.name c.in-Index.least c.in-Index.index))) in
    c.in_ok-emit_before-in-Index.ensures
    ∙ ap (λ x. (coded x).steps c.args.first (c.step-in-Index.result ∷ (reverse c.args.steps.now.items))) c.get-index.ensures
    ∙ ap (λ s. (coded c.in-Index.index).steps c.args.first (s ∷ (reverse c.args.steps.now.items))) (c.step-in-Index.ensures ∙ ap (step_at c.args.first c.args.e.now.width c.args.e.now.signed) (c.index-op.ensures ∙ ap (λ x. op.Index x c.in-Index.least c.expr_input.result) c.name_source-in-Index.ensures ∙ ap (op.Index (name_source c.in-Index.name) c.in-Index.least) (c.expr_input.ensures ∙ ap (λ x. (coded x).input c.args.first) c.get-index.ensures)))
    ∙ sym k

pub emit-returns-in_ok-emit_before-in-WordIndex : goal.emit-returns-in_ok-emit_before-in-WordIndex
emit-returns-in_ok-emit_before-in-WordIndex t c =
    let k : (coded c.args.e.now).steps c.args.first ((reverse c.args.steps.now.items)) ≡ (coded c.in-WordIndex.index).steps c.args.first (step_at c.args.first c.args.e.now.width c.args.e.now.signed (op.WordIndex c.in-WordIndex.memory c.in-WordIndex.least ((coded c.in-WordIndex.index).input c.args.first)) ∷ reverse c.args.steps.now.items) = ap (λ (x : Coded). x.steps c.args.first ((reverse c.args.steps.now.items))) (coded_at c.args.e.now (SizedKind-F.WordIndex c.in-WordIndex.memory c.in-WordIndex.least c.in-WordIndex.index) (c.in-WordIndex.is ∙ sym (rolls-WordIndex c.in-WordIndex.memory c.in-WordIndex.least c.in-WordIndex.index))) in
    c.in_ok-emit_before-in-WordIndex.ensures
    ∙ ap (λ x. (coded x).steps c.args.first (c.step-in-WordIndex.result ∷ (reverse c.args.steps.now.items))) c.get-index-in-WordIndex.ensures
    ∙ ap (λ s. (coded c.in-WordIndex.index).steps c.args.first (s ∷ (reverse c.args.steps.now.items))) (c.step-in-WordIndex.ensures ∙ ap (step_at c.args.first c.args.e.now.width c.args.e.now.signed) (c.word_index-op.ensures ∙ ap (op.WordIndex c.in-WordIndex.memory c.in-WordIndex.least) (c.expr_input-in-WordIndex.ensures ∙ ap (λ x. (coded x).input c.args.first) c.get-index-in-WordIndex.ensures)))
    ∙ sym k

pub emit-returns-in_ok-emit_before-in-Unary : goal.emit-returns-in_ok-emit_before-in-Unary
emit-returns-in_ok-emit_before-in-Unary t c =
    let k : (coded c.args.e.now).steps c.args.first ((reverse c.args.steps.now.items)) ≡ (coded c.in-Unary.a).steps c.args.first (step_at c.args.first c.args.e.now.width c.args.e.now.signed (op.Unary c.in-Unary.op ((coded c.in-Unary.a).input c.args.first)) ∷ reverse c.args.steps.now.items) = ap (λ (x : Coded). x.steps c.args.first ((reverse c.args.steps.now.items))) (coded_at c.args.e.now (SizedKind-F.Unary c.in-Unary.op c.in-Unary.a) (c.in-Unary.is ∙ sym (rolls-Unary c.in-Unary.op c.in-Unary.a))) in
    c.in_ok-emit_before-in-Unary.ensures
    ∙ ap (λ x. (coded x).steps c.args.first (c.step-in-Unary.result ∷ (reverse c.args.steps.now.items))) c.get-in-Unary.ensures
    ∙ ap (λ s. (coded c.in-Unary.a).steps c.args.first (s ∷ (reverse c.args.steps.now.items))) (c.step-in-Unary.ensures ∙ ap (step_at c.args.first c.args.e.now.width c.args.e.now.signed) (c.unary-op.ensures ∙ ap (op.Unary c.in-Unary.op) (c.expr_input-in-Unary.ensures ∙ ap (λ x. (coded x).input c.args.first) c.get.ensures)))
    ∙ sym k

pub emit-returns-in_ok-emit_before-in-LogicalNot : goal.emit-returns-in_ok-emit_before-in-LogicalNot
emit-returns-in_ok-emit_before-in-LogicalNot t c =
    let k : (coded c.args.e.now).steps c.args.first ((reverse c.args.steps.now.items)) ≡ (coded c.in-LogicalNot.a).steps c.args.first (step_at c.args.first c.args.e.now.width c.args.e.now.signed (op.LogicalNot ((coded c.in-LogicalNot.a).input c.args.first)) ∷ reverse c.args.steps.now.items) = ap (λ (x : Coded). x.steps c.args.first ((reverse c.args.steps.now.items))) (coded_at c.args.e.now (SizedKind-F.LogicalNot c.in-LogicalNot.a) (c.in-LogicalNot.is ∙ sym (rolls-LogicalNot c.in-LogicalNot.a))) in
    c.in_ok-emit_before-in-LogicalNot.ensures
    ∙ ap (λ x. (coded x).steps c.args.first (c.step-in-LogicalNot.result ∷ (reverse c.args.steps.now.items))) c.get-in-LogicalNot-2.ensures
    ∙ ap (λ s. (coded c.in-LogicalNot.a).steps c.args.first (s ∷ (reverse c.args.steps.now.items))) (c.step-in-LogicalNot.ensures ∙ ap (step_at c.args.first c.args.e.now.width c.args.e.now.signed) (ap op.LogicalNot (c.expr_input-in-LogicalNot.ensures ∙ ap (λ x. (coded x).input c.args.first) c.get-in-LogicalNot.ensures)))
    ∙ sym k

pub emit-returns-in_ok-emit_before-in-Reduction : goal.emit-returns-in_ok-emit_before-in-Reduction
emit-returns-in_ok-emit_before-in-Reduction t c =
    let k : (coded c.args.e.now).steps c.args.first ((reverse c.args.steps.now.items)) ≡ (coded c.in-Reduction.a).steps c.args.first (step_at c.args.first c.args.e.now.width c.args.e.now.signed (op.Reduction c.in-Reduction.op ((coded c.in-Reduction.a).input c.args.first)) ∷ reverse c.args.steps.now.items) = ap (λ (x : Coded). x.steps c.args.first ((reverse c.args.steps.now.items))) (coded_at c.args.e.now (SizedKind-F.Reduction c.in-Reduction.op c.in-Reduction.a) (c.in-Reduction.is ∙ sym (rolls-Reduction c.in-Reduction.op c.in-Reduction.a))) in
    c.in_ok-emit_before-in-Reduction.ensures
    ∙ ap (λ x. (coded x).steps c.args.first (c.step-in-Reduction.result ∷ (reverse c.args.steps.now.items))) c.get-in-Reduction-2.ensures
    ∙ ap (λ s. (coded c.in-Reduction.a).steps c.args.first (s ∷ (reverse c.args.steps.now.items))) (c.step-in-Reduction.ensures ∙ ap (step_at c.args.first c.args.e.now.width c.args.e.now.signed) (c.reduction-op.ensures ∙ ap (op.Reduction c.in-Reduction.op) (c.expr_input-in-Reduction.ensures ∙ ap (λ x. (coded x).input c.args.first) c.get-in-Reduction.ensures)))
    ∙ sym k

pub emit-returns-in_ok-emit_before-in-Replicate : goal.emit-returns-in_ok-emit_before-in-Replicate
emit-returns-in_ok-emit_before-in-Replicate t c =
    let k : (coded c.args.e.now).steps c.args.first ((reverse c.args.steps.now.items)) ≡ (coded c.in-Replicate.a).steps c.args.first (step_at c.args.first c.args.e.now.width c.args.e.now.signed (op.Replicate c.in-Replicate.count ((coded c.in-Replicate.a).input c.args.first)) ∷ reverse c.args.steps.now.items) = ap (λ (x : Coded). x.steps c.args.first ((reverse c.args.steps.now.items))) (coded_at c.args.e.now (SizedKind-F.Replicate c.in-Replicate.count c.in-Replicate.a) (c.in-Replicate.is ∙ sym (rolls-Replicate c.in-Replicate.count c.in-Replicate.a))) in
    c.in_ok-emit_before-in-Replicate.ensures
    ∙ ap (λ x. (coded x).steps c.args.first (c.step-in-Replicate.result ∷ (reverse c.args.steps.now.items))) c.get-in-Replicate-2.ensures
    ∙ ap (λ s. (coded c.in-Replicate.a).steps c.args.first (s ∷ (reverse c.args.steps.now.items))) (c.step-in-Replicate.ensures ∙ ap (step_at c.args.first c.args.e.now.width c.args.e.now.signed) (c.replicate-op.ensures ∙ ap (op.Replicate c.in-Replicate.count) (c.expr_input-in-Replicate.ensures ∙ ap (λ x. (coded x).input c.args.first) c.get-in-Replicate.ensures)))
    ∙ sym k

pub emit-returns-in_ok-emit-in-Binary : goal.emit-returns-in_ok-emit-in-Binary
emit-returns-in_ok-emit-in-Binary t c =
    let k : (coded c.args.e.now).steps c.args.first ((reverse c.args.steps.now.items)) ≡ (coded c.in-Binary.a).steps c.args.first ((coded c.in-Binary.b).steps (suc c.args.first) (step_at c.args.first c.args.e.now.width c.args.e.now.signed (op.Binary c.in-Binary.op ((coded c.in-Binary.a).input c.args.first) ((coded c.in-Binary.b).input (suc c.args.first))) ∷ reverse c.args.steps.now.items)) = ap (λ (x : Coded). x.steps c.args.first ((reverse c.args.steps.now.items))) (coded_at c.args.e.now (SizedKind-F.Binary c.in-Binary.op c.in-Binary.a c.in-Binary.b) (c.in-Binary.is ∙ sym (rolls-Binary c.in-Binary.op c.in-Binary.a c.in-Binary.b))) in
    c.in_ok-emit-in-Binary.ensures
    ∙ ap (λ x. (coded x).steps c.args.first (reverse c.emit_before-in-Binary.new.steps.items)) c.get-in-Binary-4.ensures
    ∙ ap ((coded c.in-Binary.a).steps c.args.first) (c.in_ok-emit_before-in-Binary.ensures ∙ ap (λ x. (coded x).steps c.in_ok-second-in-Binary.second (c.step-in-Binary.result ∷ (reverse c.args.steps.now.items))) c.get-in-Binary-3.ensures ∙ ap (λ n. (coded c.in-Binary.b).steps n (c.step-in-Binary.result ∷ (reverse c.args.steps.now.items))) c.in_ok-second-in-Binary.ensures ∙ ap (λ s. (coded c.in-Binary.b).steps (suc c.args.first) (s ∷ (reverse c.args.steps.now.items))) (c.step-in-Binary.ensures ∙ ap (step_at c.args.first c.args.e.now.width c.args.e.now.signed) (c.binary-op.ensures ∙ ap (λ x. op.Binary c.in-Binary.op x c.expr_input-in-Binary-2.result) (c.expr_input-in-Binary.ensures ∙ ap (λ x. (coded x).input c.args.first) c.get-in-Binary.ensures) ∙ ap (op.Binary c.in-Binary.op ((coded c.in-Binary.a).input c.args.first)) (c.expr_input-in-Binary-2.ensures ∙ ap (λ x. (coded x).input c.in_ok-second-in-Binary.second) c.get-in-Binary-2.ensures ∙ ap (coded c.in-Binary.b).input c.in_ok-second-in-Binary.ensures))))
    ∙ sym k

pub emit-returns-in_ok-emit-in-Comparison : goal.emit-returns-in_ok-emit-in-Comparison
emit-returns-in_ok-emit-in-Comparison t c =
    let k : (coded c.args.e.now).steps c.args.first ((reverse c.args.steps.now.items)) ≡ (coded c.in-Comparison.a).steps c.args.first ((coded c.in-Comparison.b).steps (suc c.args.first) (step_at c.args.first c.args.e.now.width c.args.e.now.signed (op.Comparison c.in-Comparison.op ((coded c.in-Comparison.a).input c.args.first) ((coded c.in-Comparison.b).input (suc c.args.first))) ∷ reverse c.args.steps.now.items)) = ap (λ (x : Coded). x.steps c.args.first ((reverse c.args.steps.now.items))) (coded_at c.args.e.now (SizedKind-F.Comparison c.in-Comparison.op c.in-Comparison.a c.in-Comparison.b) (c.in-Comparison.is ∙ sym (rolls-Comparison c.in-Comparison.op c.in-Comparison.a c.in-Comparison.b))) in
    c.in_ok-emit-in-Comparison.ensures
    ∙ ap (λ x. (coded x).steps c.args.first (reverse c.emit_before-in-Comparison.new.steps.items)) c.get-in-Comparison-4.ensures
    ∙ ap ((coded c.in-Comparison.a).steps c.args.first) (c.in_ok-emit_before-in-Comparison.ensures ∙ ap (λ x. (coded x).steps c.in_ok-second-in-Comparison.second (c.step-in-Comparison.result ∷ (reverse c.args.steps.now.items))) c.get-in-Comparison-3.ensures ∙ ap (λ n. (coded c.in-Comparison.b).steps n (c.step-in-Comparison.result ∷ (reverse c.args.steps.now.items))) c.in_ok-second-in-Comparison.ensures ∙ ap (λ s. (coded c.in-Comparison.b).steps (suc c.args.first) (s ∷ (reverse c.args.steps.now.items))) (c.step-in-Comparison.ensures ∙ ap (step_at c.args.first c.args.e.now.width c.args.e.now.signed) (c.comparison-op.ensures ∙ ap (λ x. op.Comparison c.in-Comparison.op x c.expr_input-in-Comparison-2.result) (c.expr_input-in-Comparison.ensures ∙ ap (λ x. (coded x).input c.args.first) c.get-in-Comparison.ensures) ∙ ap (op.Comparison c.in-Comparison.op ((coded c.in-Comparison.a).input c.args.first)) (c.expr_input-in-Comparison-2.ensures ∙ ap (λ x. (coded x).input c.in_ok-second-in-Comparison.second) c.get-in-Comparison-2.ensures ∙ ap (coded c.in-Comparison.b).input c.in_ok-second-in-Comparison.ensures))))
    ∙ sym k

pub emit-returns-in_ok-emit-in-Logical : goal.emit-returns-in_ok-emit-in-Logical
emit-returns-in_ok-emit-in-Logical t c =
    let k : (coded c.args.e.now).steps c.args.first ((reverse c.args.steps.now.items)) ≡ (coded c.in-Logical.a).steps c.args.first ((coded c.in-Logical.b).steps (suc c.args.first) (step_at c.args.first c.args.e.now.width c.args.e.now.signed (op.Logical c.in-Logical.op ((coded c.in-Logical.a).input c.args.first) ((coded c.in-Logical.b).input (suc c.args.first))) ∷ reverse c.args.steps.now.items)) = ap (λ (x : Coded). x.steps c.args.first ((reverse c.args.steps.now.items))) (coded_at c.args.e.now (SizedKind-F.Logical c.in-Logical.op c.in-Logical.a c.in-Logical.b) (c.in-Logical.is ∙ sym (rolls-Logical c.in-Logical.op c.in-Logical.a c.in-Logical.b))) in
    c.in_ok-emit-in-Logical.ensures
    ∙ ap (λ x. (coded x).steps c.args.first (reverse c.emit_before-in-Logical.new.steps.items)) c.get-in-Logical-4.ensures
    ∙ ap ((coded c.in-Logical.a).steps c.args.first) (c.in_ok-emit_before-in-Logical.ensures ∙ ap (λ x. (coded x).steps c.in_ok-second-in-Logical.second (c.step-in-Logical.result ∷ (reverse c.args.steps.now.items))) c.get-in-Logical-3.ensures ∙ ap (λ n. (coded c.in-Logical.b).steps n (c.step-in-Logical.result ∷ (reverse c.args.steps.now.items))) c.in_ok-second-in-Logical.ensures ∙ ap (λ s. (coded c.in-Logical.b).steps (suc c.args.first) (s ∷ (reverse c.args.steps.now.items))) (c.step-in-Logical.ensures ∙ ap (step_at c.args.first c.args.e.now.width c.args.e.now.signed) (c.logical-op.ensures ∙ ap (λ x. op.Logical c.in-Logical.op x c.expr_input-in-Logical-2.result) (c.expr_input-in-Logical.ensures ∙ ap (λ x. (coded x).input c.args.first) c.get-in-Logical.ensures) ∙ ap (op.Logical c.in-Logical.op ((coded c.in-Logical.a).input c.args.first)) (c.expr_input-in-Logical-2.ensures ∙ ap (λ x. (coded x).input c.in_ok-second-in-Logical.second) c.get-in-Logical-2.ensures ∙ ap (coded c.in-Logical.b).input c.in_ok-second-in-Logical.ensures))))
    ∙ sym k

pub emit-returns-in_ok-emit-in-Shift : goal.emit-returns-in_ok-emit-in-Shift
emit-returns-in_ok-emit-in-Shift t c =
    let k : (coded c.args.e.now).steps c.args.first ((reverse c.args.steps.now.items)) ≡ (coded c.in-Shift.a).steps c.args.first ((coded c.in-Shift.amount).steps (suc c.args.first) (step_at c.args.first c.args.e.now.width c.args.e.now.signed (op.Shift c.in-Shift.op ((coded c.in-Shift.a).input c.args.first) ((coded c.in-Shift.amount).input (suc c.args.first))) ∷ reverse c.args.steps.now.items)) = ap (λ (x : Coded). x.steps c.args.first ((reverse c.args.steps.now.items))) (coded_at c.args.e.now (SizedKind-F.Shift c.in-Shift.op c.in-Shift.a c.in-Shift.amount) (c.in-Shift.is ∙ sym (rolls-Shift c.in-Shift.op c.in-Shift.a c.in-Shift.amount))) in
    c.in_ok-emit-in-Shift.ensures
    ∙ ap (λ x. (coded x).steps c.args.first (reverse c.emit_before-in-Shift.new.steps.items)) c.get-in-Shift-4.ensures
    ∙ ap ((coded c.in-Shift.a).steps c.args.first) (c.in_ok-emit_before-in-Shift.ensures ∙ ap (λ x. (coded x).steps c.in_ok-second-in-Shift.second (c.step-in-Shift.result ∷ (reverse c.args.steps.now.items))) c.get-in-Shift-3.ensures ∙ ap (λ n. (coded c.in-Shift.amount).steps n (c.step-in-Shift.result ∷ (reverse c.args.steps.now.items))) c.in_ok-second-in-Shift.ensures ∙ ap (λ s. (coded c.in-Shift.amount).steps (suc c.args.first) (s ∷ (reverse c.args.steps.now.items))) (c.step-in-Shift.ensures ∙ ap (step_at c.args.first c.args.e.now.width c.args.e.now.signed) (c.shift-op.ensures ∙ ap (λ x. op.Shift c.in-Shift.op x c.expr_input-in-Shift-2.result) (c.expr_input-in-Shift.ensures ∙ ap (λ x. (coded x).input c.args.first) c.get-in-Shift.ensures) ∙ ap (op.Shift c.in-Shift.op ((coded c.in-Shift.a).input c.args.first)) (c.expr_input-in-Shift-2.ensures ∙ ap (λ x. (coded x).input c.in_ok-second-in-Shift.second) c.get-in-Shift-2.ensures ∙ ap (coded c.in-Shift.amount).input c.in_ok-second-in-Shift.ensures))))
    ∙ sym k

pub emit-returns-in_ok-emit_concat-in-Concat : goal.emit-returns-in_ok-emit_concat-in-Concat
emit-returns-in_ok-emit_concat-in-Concat t c =
    let k : (coded c.args.e.now).steps c.args.first ((reverse c.args.steps.now.items)) ≡ concat_steps (map coded c.in-Concat.parts) c.args.e.now.width c.args.e.now.signed c.args.first (reverse c.args.steps.now.items) = ap (λ (x : Coded). x.steps c.args.first ((reverse c.args.steps.now.items))) (coded_at c.args.e.now (SizedKind-F.Concat c.in-Concat.parts) (c.in-Concat.is ∙ sym (rolls-Concat c.in-Concat.parts))) in
    c.in_ok-emit_concat-in-Concat.ensures
    ∙ ap (λ es. concat_steps (map coded es) c.args.e.now.width c.args.e.now.signed c.args.first (reverse c.args.steps.now.items)) c.as_slice.ensures
    ∙ sym k

pub emit-returns-in_ok-push-in-Gate-2 : goal.emit-returns-in_ok-push-in-Gate-2
emit-returns-in_ok-push-in-Gate-2 t c =
    let k : (coded c.args.e.now).steps c.args.first ((reverse c.args.steps.now.items)) ≡ gate_steps c.in-Gate.op (map coded c.in-Gate.inputs) c.args.e.now.width c.args.e.now.signed c.args.first (reverse c.args.steps.now.items) = ap (λ (x : Coded). x.steps c.args.first ((reverse c.args.steps.now.items))) (coded_at c.args.e.now (SizedKind-F.Gate c.in-Gate.op c.in-Gate.inputs) (c.in-Gate.is ∙ sym (rolls-Gate c.in-Gate.op c.in-Gate.inputs))) in
    c.in_ok-push-in-Gate-2.ensures
    ∙ ap (λ s. s ∷ reverse c.emit_inputs.new.steps.items) (c.step-in-Gate-2.ensures ∙ ap (step_at c.args.first c.args.e.now.width c.args.e.now.signed) c.gate_start.ensures)
    ∙ ap (λ xs. step_at c.args.first c.args.e.now.width c.args.e.now.signed (op.GateStart c.in-Gate.op) ∷ xs) (c.in_ok-emit_inputs-in-Gate.ensures ∙ ap (λ es. inputs_steps c.in-Gate.op c.args.e.now.width c.args.e.now.signed c.args.first (map coded es) (reverse c.push-in-Gate.new.steps.items)) c.as_slice-in-Gate.ensures ∙ ap (inputs_steps c.in-Gate.op c.args.e.now.width c.args.e.now.signed c.args.first (map coded c.in-Gate.inputs)) (c.in_ok-push-in-Gate.ensures ∙ ap (λ s. s ∷ (reverse c.args.steps.now.items)) (c.step-in-Gate.ensures ∙ ap (step_at c.args.first c.args.e.now.width c.args.e.now.signed) c.gate_end.ensures)))
    ∙ sym k

pub emit-returns-in_ok-emit_before-in-Conditional-3 : goal.emit-returns-in_ok-emit_before-in-Conditional-3
emit-returns-in_ok-emit_before-in-Conditional-3 t c =
    let k : (coded c.args.e.now).steps c.args.first ((reverse c.args.steps.now.items)) ≡ conditional_steps (coded c.in-Conditional.test) (coded c.in-Conditional.a) (coded c.in-Conditional.b) c.args.e.now.width c.args.e.now.signed c.args.first (reverse c.args.steps.now.items) = ap (λ (x : Coded). x.steps c.args.first ((reverse c.args.steps.now.items))) (coded_at c.args.e.now (SizedKind-F.Conditional c.in-Conditional.test c.in-Conditional.a c.in-Conditional.b) (c.in-Conditional.is ∙ sym (rolls-Conditional c.in-Conditional.test c.in-Conditional.a c.in-Conditional.b))) in
    let n : c.saturating_sub-count.result ≡ length (reverse c.emit_before-in-Conditional.new.steps.items) - length (reverse c.args.steps.now.items) = omega (arith, c.saturating_sub-count.ensures, c.len-end.ensures, c.len.ensures, c.args.steps.now.ok.0, c.emit_before-in-Conditional.new.steps.ok.0, length-reverse c.args.steps.now.items, length-reverse c.emit_before-in-Conditional.new.steps.items) in
    let m : c.saturating_sub-count-in-Conditional.result ≡ length (reverse c.emit_before-in-Conditional-2.new.steps.items) - length (reverse c.emit_before-in-Conditional.new.steps.items) = omega (arith, c.saturating_sub-count-in-Conditional.ensures, c.len-end-in-Conditional.ensures, c.len-in-Conditional.ensures, c.emit_before-in-Conditional.new.steps.ok.0, c.emit_before-in-Conditional-2.new.steps.ok.0, length-reverse c.emit_before-in-Conditional.new.steps.items, length-reverse c.emit_before-in-Conditional-2.new.steps.items) in
    let one = c.in_ok-emit_before-in-Conditional.ensures ∙ ap (λ x. (coded x).steps c.in_ok-behind-in-Conditional.third (c.step-in-Conditional.result ∷ (reverse c.args.steps.now.items))) c.get-in-Conditional-3.ensures ∙ ap (λ n. (coded c.in-Conditional.b).steps n (c.step-in-Conditional.result ∷ (reverse c.args.steps.now.items))) c.in_ok-behind-in-Conditional.ensures.1 ∙ ap (λ s. (coded c.in-Conditional.b).steps (suc (suc c.args.first)) (s ∷ (reverse c.args.steps.now.items))) (c.step-in-Conditional.ensures ∙ ap (step_at c.args.first c.args.e.now.width c.args.e.now.signed) (c.second_op-op.ensures ∙ ap (λ x. op.Second x c.expr_input-in-Conditional-2.result) (c.expr_input-in-Conditional.ensures ∙ ap (λ x. (coded x).input c.args.first) c.get-in-Conditional.ensures) ∙ ap (op.Second ((coded c.in-Conditional.test).input c.args.first)) (c.expr_input-in-Conditional-2.ensures ∙ ap (λ x. (coded x).input c.in_ok-behind-in-Conditional.third) c.get-in-Conditional-2.ensures ∙ ap (coded c.in-Conditional.b).input c.in_ok-behind-in-Conditional.ensures.1))) in
    let two = c.in_ok-emit_before-in-Conditional-2.ensures ∙ ap (λ x. (coded x).steps c.in_ok-behind-in-Conditional.behind (c.step-in-Conditional-2.result ∷ (reverse c.emit_before-in-Conditional.new.steps.items))) c.get-in-Conditional-6.ensures ∙ ap (λ n. (coded c.in-Conditional.a).steps n (c.step-in-Conditional-2.result ∷ (reverse c.emit_before-in-Conditional.new.steps.items))) c.in_ok-behind-in-Conditional.ensures.0 ∙ ap (λ s. (coded c.in-Conditional.a).steps (suc c.args.first) (s ∷ (reverse c.emit_before-in-Conditional.new.steps.items))) (c.step-in-Conditional-2.ensures ∙ ap (step_at c.args.first c.args.e.now.width c.args.e.now.signed) (c.first_op-op.ensures ∙ ap (λ x. op.First x c.expr_input-in-Conditional-4.result c.saturating_sub-count.result) (c.expr_input-in-Conditional-3.ensures ∙ ap (λ x. (coded x).input c.args.first) c.get-in-Conditional-4.ensures) ∙ ap (λ x. op.First ((coded c.in-Conditional.test).input c.args.first) x c.saturating_sub-count.result) (c.expr_input-in-Conditional-4.ensures ∙ ap (λ x. (coded x).input c.in_ok-behind-in-Conditional.behind) c.get-in-Conditional-5.ensures ∙ ap (coded c.in-Conditional.a).input c.in_ok-behind-in-Conditional.ensures.0))) in
    let three = c.in_ok-emit_before-in-Conditional-3.ensures ∙ ap (λ x. (coded x).steps c.args.first (c.step-in-Conditional-3.result ∷ (reverse c.emit_before-in-Conditional-2.new.steps.items))) c.get-in-Conditional-8.ensures ∙ ap (λ s. (coded c.in-Conditional.test).steps c.args.first (s ∷ (reverse c.emit_before-in-Conditional-2.new.steps.items))) (c.step-in-Conditional-3.ensures ∙ ap (step_at c.args.first c.args.e.now.width c.args.e.now.signed) (c.test_op-op.ensures ∙ ap (λ x. op.Test x c.saturating_sub-count-in-Conditional.result) (c.expr_input-in-Conditional-5.ensures ∙ ap (λ x. (coded x).input c.args.first) c.get-in-Conditional-7.ensures))) in
    conditional_emitted c.in-Conditional.test c.in-Conditional.a c.in-Conditional.b c.args.first c.args.e.now.width c.args.e.now.signed (reverse c.args.steps.now.items) (reverse c.emit_before-in-Conditional.new.steps.items) (reverse c.emit_before-in-Conditional-2.new.steps.items) (reverse c.emit_before-in-Conditional-3.new.steps.items) c.saturating_sub-count.result c.saturating_sub-count-in-Conditional.result one two n three m
    ∙ sym k

pub emit_inputs-emit_before-requires : goal.emit_inputs-emit_before-requires
emit_inputs-emit_before-requires t c =
    let d = depths_left c.loop-input.left.now c.in-Some.more.now c.in-Some.input.now (most (map depth c.args.inputs.now)) c.in-Some.ensures.cases.0 c.loop-input.invariant.depths in
    (omega (arith, d.1, c.decreases), tt)

pub emit_inputs-loop-input-preserved : goal.emit_inputs-loop-input-preserved
emit_inputs-loop-input-preserved t c =
    let d = depths_left c.loop-input.left.now c.in-Some.more.now c.in-Some.input.now (most (map depth c.args.inputs.now)) c.in-Some.ensures.cases.0 c.loop-input.invariant.depths in
    record {
      whole = inputs_more c.args.gate c.args.width c.args.signed c.args.first c.loop-input.left.now c.in-Some.more.now c.in-Some.input.now (reverse c.loop-input.steps.items) (reverse c.emit_before.new.steps.items) _ c.in-Some.ensures.cases.0 (c.in_ok-emit_before.ensures ∙ ap (λ n. (coded c.in-Some.input.now).steps n (c.step_at.result ∷ (reverse c.loop-input.steps.items))) c.in_ok-second.ensures ∙ ap (λ s. (coded c.in-Some.input.now).steps (suc c.args.first) (s ∷ (reverse c.loop-input.steps.items))) (c.step_at.ensures ∙ ap (step_at c.args.first c.args.width c.args.signed) (c.gate_input-op.ensures ∙ ap (op.GateInput c.args.gate) (c.expr_input.ensures ∙ ap (coded c.in-Some.input.now).input c.in_ok-second.ensures)))) c.loop-input.invariant.whole;
      depths = d.0;
    }

pub emit_joined-emit_before-requires : goal.emit_joined-emit_before-requires
emit_joined-emit_before-requires t c =
    let d = depths_left c.loop-part.left.now c.in-Some.more.now c.in-Some.part.now (most (map depth c.args.parts.now)) c.in-Some.ensures.cases.0 c.loop-part.invariant.depths in
    (omega (arith, d.1, c.decreases), tt)

pub emit_joined-loop-part-preserved : goal.emit_joined-loop-part-preserved
emit_joined-loop-part-preserved t c =
    let d = depths_left c.loop-part.left.now c.in-Some.more.now c.in-Some.part.now (most (map depth c.args.parts.now)) c.in-Some.ensures.cases.0 c.loop-part.invariant.depths in
    record {
      whole = joined_more c.args.width c.args.signed c.args.first c.loop-part.left.now c.in-Some.more.now c.in-Some.part.now (reverse c.loop-part.steps.items) (reverse c.emit_before.new.steps.items) _ c.in-Some.ensures.cases.0 (c.in_ok-emit_before.ensures ∙ ap (λ n. (coded c.in-Some.part.now).steps n (c.step_at.result ∷ (reverse c.loop-part.steps.items))) c.in_ok-second.ensures ∙ ap (λ s. (coded c.in-Some.part.now).steps (suc c.args.first) (s ∷ (reverse c.loop-part.steps.items))) (c.step_at.ensures ∙ ap (step_at c.args.first c.args.width c.args.signed) (ap op.Join (c.expr_input.ensures ∙ ap (coded c.in-Some.part.now).input c.in_ok-second.ensures)))) c.loop-part.invariant.whole;
      depths = d.0;
    }
