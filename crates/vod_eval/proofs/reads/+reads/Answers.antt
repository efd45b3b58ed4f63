-- What each kind of expression reads, by its equation.
use Rattle.std.proofs.Common.{◌∙◌, List, ◌++◌, sym, ap, arith, append-nil, append_assoc}
use Rattle.vod_design.specs.declared.sized.SizedKind.TheOpen.{SizedKind-F}
use Rattle.vod_design.specs.declared.sized.SizedKind.TheVariants.{rolls-Number, rolls-Name, rolls-Select, rolls-Index, rolls-Word, rolls-WordIndex, rolls-Unary, rolls-Binary, rolls-Comparison, rolls-LogicalNot, rolls-Logical, rolls-Reduction, rolls-Shift, rolls-Conditional, rolls-Concat, rolls-Replicate, rolls-Call, rolls-Gate}
use Rattle.vod_design.specs.Reads.{reads}
use Rattle.vod_eval.proofs.Layers.{reads_at}
use Rattle.vod_design.specs.declared.read.Read.{Read}
use Rattle.vod_eval.proofs.Kept.{flat_map_map}
use Rattle.vod_eval.proofs.ReadLists.{behind, more, whole_list}
use Rattle.vod_eval.proofs.reads.+reads.Goals as goal

pub add_all_reads-loop-e-init : goal.add_all_reads-loop-e-init
add_all_reads-loop-e-init t c = sym (append-nil c.args.list.now.items)

pub add_all_reads-loop-e-preserved : goal.add_all_reads-loop-e-preserved
add_all_reads-loop-e-preserved t c = more c.args.exprs.now c.loop-e.e-index c.e-item.result _ _ c.args.list.now.items c.e-item.is (omega arith) c.loop-e.invariant c.in_ok-add_reads.ensures

pub add_all_reads-returns : goal.add_all_reads-returns
add_all_reads-returns t c = whole_list c.args.exprs.now c.loop-e.e-index _ c.args.list.now.items c.loop-e-test.false c.loop-e.invariant

pub add_reads-returns-in-Number : goal.add_reads-returns-in-Number
add_reads-returns-in-Number t c =
    let r = reads_at c.args.e.now (SizedKind-F.Number c.in-Number.field-0) (c.in-Number.is ∙ sym (rolls-Number c.in-Number.field-0)) in
    rw r (sym (append-nil c.args.list.now.items))

pub add_reads-returns-in-Name : goal.add_reads-returns-in-Name
add_reads-returns-in-Name t c =
    let r = reads_at c.args.e.now (SizedKind-F.Name c.in-Name.name) (c.in-Name.is ∙ sym (rolls-Name c.in-Name.name)) in
    rw r c.add_whole.ensures

pub add_reads-returns-in-Select : goal.add_reads-returns-in-Select
add_reads-returns-in-Select t c =
    let r = reads_at c.args.e.now (SizedKind-F.Select c.in-Select.name c.in-Select.low c.in-Select.width) (c.in-Select.is ∙ sym (rolls-Select c.in-Select.name c.in-Select.low c.in-Select.width)) in
    rw r c.add_bits.ensures

pub add_reads-returns-in_ok-add_whole-in-Index : goal.add_reads-returns-in_ok-add_whole-in-Index
add_reads-returns-in_ok-add_whole-in-Index t c =
    let r = reads_at c.args.e.now (SizedKind-F.Index c.in-Index.name c.in-Index.field-1 c.in-Index.index) (c.in-Index.is ∙ sym (rolls-Index c.in-Index.name c.in-Index.field-1 c.in-Index.index)) in
    rw (r, ← c.get.ensures) (behind c.add_reads.result _ _ c.args.list.now.items _ _ c.in_ok-add_whole-in-Index.ensures c.add_reads.ensures)

pub add_reads-returns-in-Word : goal.add_reads-returns-in-Word
add_reads-returns-in-Word t c =
    let r = reads_at c.args.e.now (SizedKind-F.Word c.in-Word.memory c.in-Word.place) (c.in-Word.is ∙ sym (rolls-Word c.in-Word.memory c.in-Word.place)) in
    rw r c.add.ensures

pub add_reads-returns-in_ok-add-in-WordIndex : goal.add_reads-returns-in_ok-add-in-WordIndex
add_reads-returns-in_ok-add-in-WordIndex t c =
    let r = reads_at c.args.e.now (SizedKind-F.WordIndex c.in-WordIndex.memory c.in-WordIndex.field-1 c.in-WordIndex.index) (c.in-WordIndex.is ∙ sym (rolls-WordIndex c.in-WordIndex.memory c.in-WordIndex.field-1 c.in-WordIndex.index)) in
    rw (r, ← c.get-in-WordIndex.ensures) (behind c.add_reads-in-WordIndex.result _ _ c.args.list.now.items _ _ c.in_ok-add-in-WordIndex.ensures c.add_reads-in-WordIndex.ensures)

pub add_reads-returns-in-Unary : goal.add_reads-returns-in-Unary
add_reads-returns-in-Unary t c =
    let r = reads_at c.args.e.now (SizedKind-F.Unary c.in-Unary.field-0 c.in-Unary.a) (c.in-Unary.is ∙ sym (rolls-Unary c.in-Unary.field-0 c.in-Unary.a)) in
    rw (r, ← c.get-in-Unary.ensures) c.add_reads-in-Unary.ensures

pub add_reads-returns-in_ok-add_reads-in-Binary : goal.add_reads-returns-in_ok-add_reads-in-Binary
add_reads-returns-in_ok-add_reads-in-Binary t c =
    let r = reads_at c.args.e.now (SizedKind-F.Binary c.in-Binary.field-0 c.in-Binary.a c.in-Binary.b) (c.in-Binary.is ∙ sym (rolls-Binary c.in-Binary.field-0 c.in-Binary.a c.in-Binary.b)) in
    rw (r, ← c.get-in-Binary.ensures, ← c.get-in-Binary-2.ensures) (behind c.add_reads-in-Binary-2.result _ _ c.args.list.now.items _ _ c.in_ok-add_reads-in-Binary.ensures c.add_reads-in-Binary-2.ensures)

pub add_reads-returns-in_ok-add_reads-in-Comparison : goal.add_reads-returns-in_ok-add_reads-in-Comparison
add_reads-returns-in_ok-add_reads-in-Comparison t c =
    let r = reads_at c.args.e.now (SizedKind-F.Comparison c.in-Comparison.field-0 c.in-Comparison.a c.in-Comparison.b) (c.in-Comparison.is ∙ sym (rolls-Comparison c.in-Comparison.field-0 c.in-Comparison.a c.in-Comparison.b)) in
    rw (r, ← c.get-in-Comparison.ensures, ← c.get-in-Comparison-2.ensures) (behind c.add_reads-in-Comparison-2.result _ _ c.args.list.now.items _ _ c.in_ok-add_reads-in-Comparison.ensures c.add_reads-in-Comparison-2.ensures)

pub add_reads-returns-in-LogicalNot : goal.add_reads-returns-in-LogicalNot
add_reads-returns-in-LogicalNot t c =
    let r = reads_at c.args.e.now (SizedKind-F.LogicalNot c.in-LogicalNot.a) (c.in-LogicalNot.is ∙ sym (rolls-LogicalNot c.in-LogicalNot.a)) in
    rw (r, ← c.get-in-LogicalNot.ensures) c.add_reads-in-LogicalNot.ensures

pub add_reads-returns-in_ok-add_reads-in-Logical : goal.add_reads-returns-in_ok-add_reads-in-Logical
add_reads-returns-in_ok-add_reads-in-Logical t c =
    let r = reads_at c.args.e.now (SizedKind-F.Logical c.in-Logical.field-0 c.in-Logical.a c.in-Logical.b) (c.in-Logical.is ∙ sym (rolls-Logical c.in-Logical.field-0 c.in-Logical.a c.in-Logical.b)) in
    rw (r, ← c.get-in-Logical.ensures, ← c.get-in-Logical-2.ensures) (behind c.add_reads-in-Logical-2.result _ _ c.args.list.now.items _ _ c.in_ok-add_reads-in-Logical.ensures c.add_reads-in-Logical-2.ensures)

pub add_reads-returns-in-Reduction : goal.add_reads-returns-in-Reduction
add_reads-returns-in-Reduction t c =
    let r = reads_at c.args.e.now (SizedKind-F.Reduction c.in-Reduction.field-0 c.in-Reduction.a) (c.in-Reduction.is ∙ sym (rolls-Reduction c.in-Reduction.field-0 c.in-Reduction.a)) in
    rw (r, ← c.get-in-Reduction.ensures) c.add_reads-in-Reduction.ensures

pub add_reads-returns-in_ok-add_reads-in-Shift : goal.add_reads-returns-in_ok-add_reads-in-Shift
add_reads-returns-in_ok-add_reads-in-Shift t c =
    let r = reads_at c.args.e.now (SizedKind-F.Shift c.in-Shift.field-0 c.in-Shift.a c.in-Shift.amount) (c.in-Shift.is ∙ sym (rolls-Shift c.in-Shift.field-0 c.in-Shift.a c.in-Shift.amount)) in
    rw (r, ← c.get-in-Shift.ensures, ← c.get-in-Shift-2.ensures) (behind c.add_reads-in-Shift-2.result _ _ c.args.list.now.items _ _ c.in_ok-add_reads-in-Shift.ensures c.add_reads-in-Shift-2.ensures)

pub add_reads-returns-in_ok-add_reads-in-Conditional-2 : goal.add_reads-returns-in_ok-add_reads-in-Conditional-2
add_reads-returns-in_ok-add_reads-in-Conditional-2 t c =
    let r = reads_at c.args.e.now (SizedKind-F.Conditional c.in-Conditional.test c.in-Conditional.a c.in-Conditional.b) (c.in-Conditional.is ∙ sym (rolls-Conditional c.in-Conditional.test c.in-Conditional.a c.in-Conditional.b)) in
    let so_far = c.in_ok-add_reads-in-Conditional-2.ensures ∙ ap (λ m. m ++ reads c.get-in-Conditional-2.result.now) c.in_ok-add_reads-in-Conditional.ensures
    ∙ append_assoc c.args.list.now.items (reads c.get-in-Conditional.result.now) (reads c.get-in-Conditional-2.result.now) in
    rw (r, ← c.get-in-Conditional.ensures, ← c.get-in-Conditional-2.ensures, ← c.get-in-Conditional-3.ensures) (behind c.add_reads-in-Conditional-3.result _ _ c.args.list.now.items _ _ so_far c.add_reads-in-Conditional-3.ensures)

pub add_reads-returns-in-Concat : goal.add_reads-returns-in-Concat
add_reads-returns-in-Concat t c =
    let r = reads_at c.args.e.now (SizedKind-F.Concat c.in-Concat.parts) (c.in-Concat.is ∙ sym (rolls-Concat c.in-Concat.parts)) in
    rw (r, ← c.as_slice.ensures, flat_map_map (λ (rs : List Read). rs) reads c.as_slice.result.now) c.add_all_reads.ensures

pub add_reads-returns-in-Replicate : goal.add_reads-returns-in-Replicate
add_reads-returns-in-Replicate t c =
    let r = reads_at c.args.e.now (SizedKind-F.Replicate c.in-Replicate.field-0 c.in-Replicate.a) (c.in-Replicate.is ∙ sym (rolls-Replicate c.in-Replicate.field-0 c.in-Replicate.a)) in
    rw (r, ← c.get-in-Replicate.ensures) c.add_reads-in-Replicate.ensures

pub add_reads-returns-in-Call : goal.add_reads-returns-in-Call
add_reads-returns-in-Call t c =
    let r = reads_at c.args.e.now (SizedKind-F.Call c.in-Call.field-0 c.in-Call.arguments) (c.in-Call.is ∙ sym (rolls-Call c.in-Call.field-0 c.in-Call.arguments)) in
    rw (r, ← c.as_slice-in-Call.ensures, flat_map_map (λ (rs : List Read). rs) reads c.as_slice-in-Call.result.now) c.add_all_reads-in-Call.ensures

pub add_reads-returns-in-Gate : goal.add_reads-returns-in-Gate
add_reads-returns-in-Gate t c =
    let r = reads_at c.args.e.now (SizedKind-F.Gate c.in-Gate.field-0 c.in-Gate.inputs) (c.in-Gate.is ∙ sym (rolls-Gate c.in-Gate.field-0 c.in-Gate.inputs)) in
    rw (r, ← c.as_slice-in-Gate.ensures, flat_map_map (λ (rs : List Read). rs) reads c.as_slice-in-Gate.result.now) c.add_all_reads-in-Gate.ensures
