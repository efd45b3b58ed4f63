-- How many cells the steps of each kind of expression use, by its equation.
use Rattle.std.proofs.Common.{◌≡◌, ◌∙◌, ◌+◌, map, sym, ap, arith}
use Rattle.vod_design.specs.declared.sized.SizedKind.TheOpen.{SizedKind-F}
use Rattle.vod_design.specs.declared.sized.SizedKind.TheVariants.{rolls-Number, rolls-Name, rolls-Select, rolls-Index, rolls-Word, rolls-WordIndex, rolls-Unary, rolls-Binary, rolls-Comparison, rolls-LogicalNot, rolls-Logical, rolls-Reduction, rolls-Shift, rolls-Conditional, rolls-Concat, rolls-Replicate, rolls-Call, rolls-Gate}
use Rattle.vod_eval.specs.Room.{most, saturated}
use Rattle.vod_compiled.specs.Code.{cells_of}
use Rattle.vod_compiled.proofs.Layers.{cells_at}
use Rattle.vod_eval.proofs.Kept.{most_take}
use Rattle.vod_compiled.proofs.flat.+cells.Goals as goal

pub cells_of-returns-in-Number : goal.cells_of-returns-in-Number
cells_of-returns-in-Number t c =
    let k = cells_at c.args.e.now (SizedKind-F.Number c.in-Number.field-0) (c.in-Number.is ∙ sym (rolls-Number c.in-Number.field-0)) in
    grind (arith, k)

pub cells_of-returns-in-Name : goal.cells_of-returns-in-Name
cells_of-returns-in-Name t c =
    let k = cells_at c.args.e.now (SizedKind-F.Name c.in-Name.field-0) (c.in-Name.is ∙ sym (rolls-Name c.in-Name.field-0)) in
    grind (arith, k)

pub cells_of-returns-in-Select : goal.cells_of-returns-in-Select
cells_of-returns-in-Select t c =
    let k = cells_at c.args.e.now (SizedKind-F.Select c.in-Select.field-0 c.in-Select.field-1 c.in-Select.field-2) (c.in-Select.is ∙ sym (rolls-Select c.in-Select.field-0 c.in-Select.field-1 c.in-Select.field-2)) in
    grind (arith, k)

pub cells_of-returns-in-Index : goal.cells_of-returns-in-Index
cells_of-returns-in-Index t c =
    let k = cells_at c.args.e.now (SizedKind-F.Index c.in-Index.field-0 c.in-Index.field-1 c.in-Index.index) (c.in-Index.is ∙ sym (rolls-Index c.in-Index.field-0 c.in-Index.field-1 c.in-Index.index)) in
    grind (arith, k)

pub cells_of-returns-in-Word : goal.cells_of-returns-in-Word
cells_of-returns-in-Word t c =
    let k = cells_at c.args.e.now (SizedKind-F.Word c.in-Word.field-0 c.in-Word.field-1) (c.in-Word.is ∙ sym (rolls-Word c.in-Word.field-0 c.in-Word.field-1)) in
    grind (arith, k)

pub cells_of-returns-in-WordIndex : goal.cells_of-returns-in-WordIndex
cells_of-returns-in-WordIndex t c =
    let k = cells_at c.args.e.now (SizedKind-F.WordIndex c.in-WordIndex.field-0 c.in-WordIndex.field-1 c.in-WordIndex.index) (c.in-WordIndex.is ∙ sym (rolls-WordIndex c.in-WordIndex.field-0 c.in-WordIndex.field-1 c.in-WordIndex.index)) in
    grind (arith, k)

pub cells_of-returns-in-Unary : goal.cells_of-returns-in-Unary
cells_of-returns-in-Unary t c =
    let k = cells_at c.args.e.now (SizedKind-F.Unary c.in-Unary.field-0 c.in-Unary.a) (c.in-Unary.is ∙ sym (rolls-Unary c.in-Unary.field-0 c.in-Unary.a)) in
    grind (arith, k)

pub cells_of-returns-in-Binary : goal.cells_of-returns-in-Binary
cells_of-returns-in-Binary t c =
    let k = cells_at c.args.e.now (SizedKind-F.Binary c.in-Binary.field-0 c.in-Binary.a c.in-Binary.b) (c.in-Binary.is ∙ sym (rolls-Binary c.in-Binary.field-0 c.in-Binary.a c.in-Binary.b)) in
    grind (arith, k)

pub cells_of-returns-in-Comparison : goal.cells_of-returns-in-Comparison
cells_of-returns-in-Comparison t c =
    let k = cells_at c.args.e.now (SizedKind-F.Comparison c.in-Comparison.field-0 c.in-Comparison.a c.in-Comparison.b) (c.in-Comparison.is ∙ sym (rolls-Comparison c.in-Comparison.field-0 c.in-Comparison.a c.in-Comparison.b)) in
    grind (arith, k)

pub cells_of-returns-in-LogicalNot : goal.cells_of-returns-in-LogicalNot
cells_of-returns-in-LogicalNot t c =
    let k = cells_at c.args.e.now (SizedKind-F.LogicalNot c.in-LogicalNot.a) (c.in-LogicalNot.is ∙ sym (rolls-LogicalNot c.in-LogicalNot.a)) in
    grind (arith, k)

pub cells_of-returns-in-Logical : goal.cells_of-returns-in-Logical
cells_of-returns-in-Logical t c =
    let k = cells_at c.args.e.now (SizedKind-F.Logical c.in-Logical.field-0 c.in-Logical.a c.in-Logical.b) (c.in-Logical.is ∙ sym (rolls-Logical c.in-Logical.field-0 c.in-Logical.a c.in-Logical.b)) in
    grind (arith, k)

pub cells_of-returns-in-Reduction : goal.cells_of-returns-in-Reduction
cells_of-returns-in-Reduction t c =
    let k = cells_at c.args.e.now (SizedKind-F.Reduction c.in-Reduction.field-0 c.in-Reduction.a) (c.in-Reduction.is ∙ sym (rolls-Reduction c.in-Reduction.field-0 c.in-Reduction.a)) in
    grind (arith, k)

pub cells_of-returns-in-Shift : goal.cells_of-returns-in-Shift
cells_of-returns-in-Shift t c =
    let k = cells_at c.args.e.now (SizedKind-F.Shift c.in-Shift.field-0 c.in-Shift.a c.in-Shift.amount) (c.in-Shift.is ∙ sym (rolls-Shift c.in-Shift.field-0 c.in-Shift.a c.in-Shift.amount)) in
    grind (arith, k)

pub cells_of-returns-in-Conditional : goal.cells_of-returns-in-Conditional
cells_of-returns-in-Conditional t c =
    let k = cells_at c.args.e.now (SizedKind-F.Conditional c.in-Conditional.test c.in-Conditional.a c.in-Conditional.b) (c.in-Conditional.is ∙ sym (rolls-Conditional c.in-Conditional.test c.in-Conditional.a c.in-Conditional.b)) in
    grind (arith, k)

pub cells_of-returns-in-Concat : goal.cells_of-returns-in-Concat
cells_of-returns-in-Concat t c =
    let k : cells_of c.args.e.now ≡ 1 + most (map cells_of c.in-Concat.parts) = cells_at c.args.e.now (SizedKind-F.Concat c.in-Concat.parts) (c.in-Concat.is ∙ sym (rolls-Concat c.in-Concat.parts)) in
    let s : c.most_cells.result ≡ saturated (most (map cells_of c.in-Concat.parts)) = c.most_cells.ensures ∙ ap (λ es. saturated (most (map cells_of es))) c.as_slice.ensures in
    let m : c.saturating_add.result ≡ saturated (c.most_cells.result + 1) = c.saturating_add.ensures in
    omega arith

pub cells_of-returns-in-Replicate : goal.cells_of-returns-in-Replicate
cells_of-returns-in-Replicate t c =
    let k = cells_at c.args.e.now (SizedKind-F.Replicate c.in-Replicate.field-0 c.in-Replicate.a) (c.in-Replicate.is ∙ sym (rolls-Replicate c.in-Replicate.field-0 c.in-Replicate.a)) in
    grind (arith, k)

pub cells_of-returns-in-Call : goal.cells_of-returns-in-Call
cells_of-returns-in-Call t c =
    let k = cells_at c.args.e.now (SizedKind-F.Call c.in-Call.field-0 c.in-Call.field-1) (c.in-Call.is ∙ sym (rolls-Call c.in-Call.field-0 c.in-Call.field-1)) in
    grind (arith, k)

pub cells_of-returns-in-Gate : goal.cells_of-returns-in-Gate
cells_of-returns-in-Gate t c =
    let k : cells_of c.args.e.now ≡ 1 + most (map cells_of c.in-Gate.inputs) = cells_at c.args.e.now (SizedKind-F.Gate c.in-Gate.field-0 c.in-Gate.inputs) (c.in-Gate.is ∙ sym (rolls-Gate c.in-Gate.field-0 c.in-Gate.inputs)) in
    let s : c.most_cells-in-Gate.result ≡ saturated (most (map cells_of c.in-Gate.inputs)) = c.most_cells-in-Gate.ensures ∙ ap (λ es. saturated (most (map cells_of es))) c.as_slice-in-Gate.ensures in
    let m : c.saturating_add-in-Gate.result ≡ saturated (c.most_cells-in-Gate.result + 1) = c.saturating_add-in-Gate.ensures in
    omega arith

pub most_cells-loop-e-preserved : goal.most_cells-loop-e-preserved
most_cells-loop-e-preserved t c =
    let m = most_take cells_of c.args.exprs.now c.loop-e.e-index c.e-item.result c.e-item.is (omega arith) in
    grind (arith, m)
