-- Whether each kind of expression calls no function, by its equation.
use Rattle.std.proofs.Common.{◌∙◌, sym, arith}
use Rattle.vod_design.specs.declared.sized.SizedKind.TheOpen.{SizedKind-F}
use Rattle.vod_design.specs.declared.sized.SizedKind.TheVariants.{rolls-Number, rolls-Name, rolls-Select, rolls-Index, rolls-Word, rolls-WordIndex, rolls-Unary, rolls-Binary, rolls-Comparison, rolls-LogicalNot, rolls-Logical, rolls-Reduction, rolls-Shift, rolls-Conditional, rolls-Concat, rolls-Replicate, rolls-Call, rolls-Gate}
use Rattle.vod_compiled.proofs.Layers.{flat_at}
use Rattle.vod_compiled.proofs.flat.+flat.Goals as goal

pub is_flat-returns-in-Number : goal.is_flat-returns-in-Number
is_flat-returns-in-Number t c =
    let k = flat_at c.args.e.now (SizedKind-F.Number c.in-Number.field-0) (c.in-Number.is ∙ sym (rolls-Number c.in-Number.field-0)) in
    grind (arith, k)

pub is_flat-returns-in-Name : goal.is_flat-returns-in-Name
is_flat-returns-in-Name t c =
    let k = flat_at c.args.e.now (SizedKind-F.Name c.in-Name.field-0) (c.in-Name.is ∙ sym (rolls-Name c.in-Name.field-0)) in
    grind (arith, k)

pub is_flat-returns-in-Select : goal.is_flat-returns-in-Select
is_flat-returns-in-Select t c =
    let k = flat_at c.args.e.now (SizedKind-F.Select c.in-Select.field-0 c.in-Select.field-1 c.in-Select.field-2) (c.in-Select.is ∙ sym (rolls-Select c.in-Select.field-0 c.in-Select.field-1 c.in-Select.field-2)) in
    grind (arith, k)

pub is_flat-returns-in-Index : goal.is_flat-returns-in-Index
is_flat-returns-in-Index t c =
    let k = flat_at c.args.e.now (SizedKind-F.Index c.in-Index.field-0 c.in-Index.field-1 c.in-Index.index) (c.in-Index.is ∙ sym (rolls-Index c.in-Index.field-0 c.in-Index.field-1 c.in-Index.index)) in
    grind (arith, k)

pub is_flat-returns-in-Word : goal.is_flat-returns-in-Word
is_flat-returns-in-Word t c =
    let k = flat_at c.args.e.now (SizedKind-F.Word c.in-Word.field-0 c.in-Word.field-1) (c.in-Word.is ∙ sym (rolls-Word c.in-Word.field-0 c.in-Word.field-1)) in
    grind (arith, k)

pub is_flat-returns-in-WordIndex : goal.is_flat-returns-in-WordIndex
is_flat-returns-in-WordIndex t c =
    let k = flat_at c.args.e.now (SizedKind-F.WordIndex c.in-WordIndex.field-0 c.in-WordIndex.field-1 c.in-WordIndex.index) (c.in-WordIndex.is ∙ sym (rolls-WordIndex c.in-WordIndex.field-0 c.in-WordIndex.field-1 c.in-WordIndex.index)) in
    grind (arith, k)

pub is_flat-returns-in-Unary : goal.is_flat-returns-in-Unary
is_flat-returns-in-Unary t c =
    let k = flat_at c.args.e.now (SizedKind-F.Unary c.in-Unary.field-0 c.in-Unary.a) (c.in-Unary.is ∙ sym (rolls-Unary c.in-Unary.field-0 c.in-Unary.a)) in
    grind (arith, k)

pub is_flat-returns-in-Binary : goal.is_flat-returns-in-Binary
is_flat-returns-in-Binary t c =
    let k = flat_at c.args.e.now (SizedKind-F.Binary c.in-Binary.field-0 c.in-Binary.a c.in-Binary.b) (c.in-Binary.is ∙ sym (rolls-Binary c.in-Binary.field-0 c.in-Binary.a c.in-Binary.b)) in
    grind (arith, k)

pub is_flat-returns-in-Comparison : goal.is_flat-returns-in-Comparison
is_flat-returns-in-Comparison t c =
    let k = flat_at c.args.e.now (SizedKind-F.Comparison c.in-Comparison.field-0 c.in-Comparison.a c.in-Comparison.b) (c.in-Comparison.is ∙ sym (rolls-Comparison c.in-Comparison.field-0 c.in-Comparison.a c.in-Comparison.b)) in
    grind (arith, k)

pub is_flat-returns-in-LogicalNot : goal.is_flat-returns-in-LogicalNot
is_flat-returns-in-LogicalNot t c =
    let k = flat_at c.args.e.now (SizedKind-F.LogicalNot c.in-LogicalNot.a) (c.in-LogicalNot.is ∙ sym (rolls-LogicalNot c.in-LogicalNot.a)) in
    grind (arith, k)

pub is_flat-returns-in-Logical : goal.is_flat-returns-in-Logical
is_flat-returns-in-Logical t c =
    let k = flat_at c.args.e.now (SizedKind-F.Logical c.in-Logical.field-0 c.in-Logical.a c.in-Logical.b) (c.in-Logical.is ∙ sym (rolls-Logical c.in-Logical.field-0 c.in-Logical.a c.in-Logical.b)) in
    grind (arith, k)

pub is_flat-returns-in-Reduction : goal.is_flat-returns-in-Reduction
is_flat-returns-in-Reduction t c =
    let k = flat_at c.args.e.now (SizedKind-F.Reduction c.in-Reduction.field-0 c.in-Reduction.a) (c.in-Reduction.is ∙ sym (rolls-Reduction c.in-Reduction.field-0 c.in-Reduction.a)) in
    grind (arith, k)

pub is_flat-returns-in-Shift : goal.is_flat-returns-in-Shift
is_flat-returns-in-Shift t c =
    let k = flat_at c.args.e.now (SizedKind-F.Shift c.in-Shift.field-0 c.in-Shift.a c.in-Shift.amount) (c.in-Shift.is ∙ sym (rolls-Shift c.in-Shift.field-0 c.in-Shift.a c.in-Shift.amount)) in
    grind (arith, k)

pub is_flat-returns-in-Conditional : goal.is_flat-returns-in-Conditional
is_flat-returns-in-Conditional t c =
    let k = flat_at c.args.e.now (SizedKind-F.Conditional c.in-Conditional.test c.in-Conditional.a c.in-Conditional.b) (c.in-Conditional.is ∙ sym (rolls-Conditional c.in-Conditional.test c.in-Conditional.a c.in-Conditional.b)) in
    grind (arith, k)

pub is_flat-returns-in-Concat : goal.is_flat-returns-in-Concat
is_flat-returns-in-Concat t c =
    let k = flat_at c.args.e.now (SizedKind-F.Concat c.in-Concat.parts) (c.in-Concat.is ∙ sym (rolls-Concat c.in-Concat.parts)) in
    grind (arith, k)

pub is_flat-returns-in-Replicate : goal.is_flat-returns-in-Replicate
is_flat-returns-in-Replicate t c =
    let k = flat_at c.args.e.now (SizedKind-F.Replicate c.in-Replicate.field-0 c.in-Replicate.a) (c.in-Replicate.is ∙ sym (rolls-Replicate c.in-Replicate.field-0 c.in-Replicate.a)) in
    grind (arith, k)

pub is_flat-returns-in-Call : goal.is_flat-returns-in-Call
is_flat-returns-in-Call t c =
    let k = flat_at c.args.e.now (SizedKind-F.Call c.in-Call.field-0 c.in-Call.field-1) (c.in-Call.is ∙ sym (rolls-Call c.in-Call.field-0 c.in-Call.field-1)) in
    grind (arith, k)

pub is_flat-returns-in-Gate : goal.is_flat-returns-in-Gate
is_flat-returns-in-Gate t c =
    let k = flat_at c.args.e.now (SizedKind-F.Gate c.in-Gate.field-0 c.in-Gate.inputs) (c.in-Gate.is ∙ sym (rolls-Gate c.in-Gate.field-0 c.in-Gate.inputs)) in
    grind (arith, k)
