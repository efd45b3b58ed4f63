-- The room of each kind of expression, by its equation.
use Rattle.std.proofs.Common.{◌≡◌, ◌∙◌, max, sym, ap, arith, map}
use Rattle.vod_design.specs.declared.sized.SizedKind.TheOpen.{SizedKind-F}
use Rattle.vod_design.specs.declared.sized.SizedKind.TheVariants.{rolls-Index, rolls-WordIndex, rolls-Unary, rolls-Binary, rolls-Comparison, rolls-LogicalNot, rolls-Logical, rolls-Reduction, rolls-Shift, rolls-Conditional, rolls-Concat, rolls-Replicate, rolls-Call, rolls-Gate, rolls-Number, rolls-Name, rolls-Select, rolls-Word}
use Rattle.vod_eval.specs.Room.{room_in, saturated, expr_room, staged}
use Rattle.vod_eval.proofs.Layers.{room_at}
use Rattle.vod_eval.proofs.Kept.{most_take, staged_take}
use Rattle.vod_eval.proofs.room.+expr.Goals as goal

pub expr_room-returns-in-Index : goal.expr_room-returns-in-Index
expr_room-returns-in-Index t c =
    let r = room_at (room_in c.args.rooms.now) c.args.e.now (SizedKind-F.Index c.in-Index.field-0 c.in-Index.field-1 c.in-Index.index) (c.in-Index.is ∙ sym (rolls-Index c.in-Index.field-0 c.in-Index.field-1 c.in-Index.index)) in
    grind (arith, r)

pub expr_room-returns-in-WordIndex : goal.expr_room-returns-in-WordIndex
expr_room-returns-in-WordIndex t c =
    let r = room_at (room_in c.args.rooms.now) c.args.e.now (SizedKind-F.WordIndex c.in-WordIndex.field-0 c.in-WordIndex.field-1 c.in-WordIndex.index) (c.in-WordIndex.is ∙ sym (rolls-WordIndex c.in-WordIndex.field-0 c.in-WordIndex.field-1 c.in-WordIndex.index)) in
    grind (arith, r)

pub expr_room-returns-in-Unary : goal.expr_room-returns-in-Unary
expr_room-returns-in-Unary t c =
    let r = room_at (room_in c.args.rooms.now) c.args.e.now (SizedKind-F.Unary c.in-Unary.field-0 c.in-Unary.a) (c.in-Unary.is ∙ sym (rolls-Unary c.in-Unary.field-0 c.in-Unary.a)) in
    grind (arith, r)

pub expr_room-returns-in-Binary : goal.expr_room-returns-in-Binary
expr_room-returns-in-Binary t c =
    let r = room_at (room_in c.args.rooms.now) c.args.e.now (SizedKind-F.Binary c.in-Binary.field-0 c.in-Binary.a c.in-Binary.b) (c.in-Binary.is ∙ sym (rolls-Binary c.in-Binary.field-0 c.in-Binary.a c.in-Binary.b)) in
    grind (arith, r)

pub expr_room-returns-in-Comparison : goal.expr_room-returns-in-Comparison
expr_room-returns-in-Comparison t c =
    let r = room_at (room_in c.args.rooms.now) c.args.e.now (SizedKind-F.Comparison c.in-Comparison.field-0 c.in-Comparison.a c.in-Comparison.b) (c.in-Comparison.is ∙ sym (rolls-Comparison c.in-Comparison.field-0 c.in-Comparison.a c.in-Comparison.b)) in
    grind (arith, r)

pub expr_room-returns-in-LogicalNot : goal.expr_room-returns-in-LogicalNot
expr_room-returns-in-LogicalNot t c =
    let r = room_at (room_in c.args.rooms.now) c.args.e.now (SizedKind-F.LogicalNot c.in-LogicalNot.a) (c.in-LogicalNot.is ∙ sym (rolls-LogicalNot c.in-LogicalNot.a)) in
    grind (arith, r)

pub expr_room-returns-in-Logical : goal.expr_room-returns-in-Logical
expr_room-returns-in-Logical t c =
    let r = room_at (room_in c.args.rooms.now) c.args.e.now (SizedKind-F.Logical c.in-Logical.field-0 c.in-Logical.a c.in-Logical.b) (c.in-Logical.is ∙ sym (rolls-Logical c.in-Logical.field-0 c.in-Logical.a c.in-Logical.b)) in
    grind (arith, r)

pub expr_room-returns-in-Reduction : goal.expr_room-returns-in-Reduction
expr_room-returns-in-Reduction t c =
    let r = room_at (room_in c.args.rooms.now) c.args.e.now (SizedKind-F.Reduction c.in-Reduction.field-0 c.in-Reduction.a) (c.in-Reduction.is ∙ sym (rolls-Reduction c.in-Reduction.field-0 c.in-Reduction.a)) in
    grind (arith, r)

pub expr_room-returns-in-Shift : goal.expr_room-returns-in-Shift
expr_room-returns-in-Shift t c =
    let r = room_at (room_in c.args.rooms.now) c.args.e.now (SizedKind-F.Shift c.in-Shift.field-0 c.in-Shift.a c.in-Shift.amount) (c.in-Shift.is ∙ sym (rolls-Shift c.in-Shift.field-0 c.in-Shift.a c.in-Shift.amount)) in
    grind (arith, r)

pub expr_room-returns-in-Conditional : goal.expr_room-returns-in-Conditional
expr_room-returns-in-Conditional t c =
    let r = room_at (room_in c.args.rooms.now) c.args.e.now (SizedKind-F.Conditional c.in-Conditional.test c.in-Conditional.a c.in-Conditional.b) (c.in-Conditional.is ∙ sym (rolls-Conditional c.in-Conditional.test c.in-Conditional.a c.in-Conditional.b)) in
    grind (arith, r)

pub expr_room-returns-in-Concat : goal.expr_room-returns-in-Concat
expr_room-returns-in-Concat t c =
    let r = room_at (room_in c.args.rooms.now) c.args.e.now (SizedKind-F.Concat c.in-Concat.parts) (c.in-Concat.is ∙ sym (rolls-Concat c.in-Concat.parts)) in
    grind (arith, r)

pub expr_room-returns-in-Replicate : goal.expr_room-returns-in-Replicate
expr_room-returns-in-Replicate t c =
    let r = room_at (room_in c.args.rooms.now) c.args.e.now (SizedKind-F.Replicate c.in-Replicate.field-0 c.in-Replicate.a) (c.in-Replicate.is ∙ sym (rolls-Replicate c.in-Replicate.field-0 c.in-Replicate.a)) in
    grind (arith, r)

pub expr_room-returns-in-Call : goal.expr_room-returns-in-Call
expr_room-returns-in-Call t c =
    let r : expr_room (room_in c.args.rooms.now) c.args.e.now ≡ max (staged (map (expr_room (room_in c.args.rooms.now)) c.in-Call.arguments)) (room_in c.args.rooms.now c.in-Call.n)
    = room_at (room_in c.args.rooms.now) c.args.e.now (SizedKind-F.Call c.in-Call.n c.in-Call.arguments) (c.in-Call.is ∙ sym (rolls-Call c.in-Call.n c.in-Call.arguments)) in
    let s : c.staged_room.result ≡ saturated (staged (map (expr_room (room_in c.args.rooms.now)) c.in-Call.arguments))
    = c.staged_room.ensures ∙ ap (λ es. saturated (staged (map (expr_room (room_in c.args.rooms.now)) es))) c.as_slice-in-Call.ensures in
    let m : c.max-in-Call.result ≡ max c.staged_room.result c.room_at.result = c.max-in-Call.ensures in
    let n : c.room_at.result ≡ room_in c.args.rooms.now c.in-Call.n = c.room_at.ensures in
    omega arith

pub expr_room-returns-in-Gate : goal.expr_room-returns-in-Gate
expr_room-returns-in-Gate t c =
    let r = room_at (room_in c.args.rooms.now) c.args.e.now (SizedKind-F.Gate c.in-Gate.field-0 c.in-Gate.inputs) (c.in-Gate.is ∙ sym (rolls-Gate c.in-Gate.field-0 c.in-Gate.inputs)) in
    grind (arith, r)

pub expr_room-returns-in-Number : goal.expr_room-returns-in-Number
expr_room-returns-in-Number t c =
    let r = room_at (room_in c.args.rooms.now) c.args.e.now (SizedKind-F.Number c.in-Number.field-0) (c.in-Number.is ∙ sym (rolls-Number c.in-Number.field-0)) in
    grind (arith, r)

pub expr_room-returns-in-Name : goal.expr_room-returns-in-Name
expr_room-returns-in-Name t c =
    let r = room_at (room_in c.args.rooms.now) c.args.e.now (SizedKind-F.Name c.in-Name.field-0) (c.in-Name.is ∙ sym (rolls-Name c.in-Name.field-0)) in
    grind (arith, r)

pub expr_room-returns-in-Select : goal.expr_room-returns-in-Select
expr_room-returns-in-Select t c =
    let r = room_at (room_in c.args.rooms.now) c.args.e.now (SizedKind-F.Select c.in-Select.field-0 c.in-Select.field-1 c.in-Select.field-2) (c.in-Select.is ∙ sym (rolls-Select c.in-Select.field-0 c.in-Select.field-1 c.in-Select.field-2)) in
    grind (arith, r)

pub expr_room-returns-in-Word : goal.expr_room-returns-in-Word
expr_room-returns-in-Word t c =
    let r = room_at (room_in c.args.rooms.now) c.args.e.now (SizedKind-F.Word c.in-Word.field-0 c.in-Word.field-1) (c.in-Word.is ∙ sym (rolls-Word c.in-Word.field-0 c.in-Word.field-1)) in
    grind (arith, r)

pub most_room-loop-e-preserved : goal.most_room-loop-e-preserved
most_room-loop-e-preserved t c =
    let m = most_take (expr_room (room_in c.args.rooms.now)) c.args.exprs.now c.loop-e.e-index c.e-item.result c.e-item.is (omega arith) in
    grind (arith, m)

pub staged_room-loop-i-preserved : goal.staged_room-loop-i-preserved
staged_room-loop-i-preserved t c =
    let m = staged_take (expr_room (room_in c.args.rooms.now)) c.args.exprs.now c.loop-i.i c.index-exprs-i.result c.index-exprs-i.is (omega arith) in
    grind (arith, m)
