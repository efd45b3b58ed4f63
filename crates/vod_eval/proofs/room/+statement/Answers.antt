-- The room of each kind of statement, by its equation.
use Rattle.std.proofs.Common.{◌≡◌, ◌∙◌, max, sym, ap, arith, map}
use Rattle.vod_design.specs.declared.statement.Part.{Part}
use Rattle.vod_design.specs.declared.statement.Statement.TheOpen.{Statement-F}
use Rattle.vod_design.specs.declared.statement.Statement.TheVariants.{rolls-Assign, rolls-If, rolls-Case, rolls-Begin, rolls-Empty}
use Rattle.vod_eval.specs.Room.{room_in, saturated, expr_room, index_room, statement_room, item_room_of, most, staged}
use Rattle.vod_eval.proofs.Layers.{statement_room_at, item_room_at}
use Rattle.vod_eval.proofs.Kept.{most_take}
use Rattle.vod_eval.proofs.room.+statement.Goals as goal

pub statement_room-returns-in-Assign : goal.statement_room-returns-in-Assign
statement_room-returns-in-Assign t c =
    let index = λ (p : Part). index_room (room_in c.args.rooms.now) p.target in
    let r : statement_room (room_in c.args.rooms.now) c.args.statement.now ≡ max (expr_room (room_in c.args.rooms.now) c.in-Assign.right) (staged (map index c.in-Assign.parts))
    = statement_room_at (room_in c.args.rooms.now) c.args.statement.now (Statement-F.Assign c.in-Assign.parts c.in-Assign.right) (c.in-Assign.is ∙ sym (rolls-Assign c.in-Assign.parts c.in-Assign.right)) in
    let s : c.parts_room.result ≡ saturated (staged (map index c.in-Assign.parts)) = c.parts_room.ensures ∙ ap (λ ps. saturated (staged (map index ps))) c.as_slice.ensures in
    let m : c.max.result ≡ max c.expr_room.result c.parts_room.result = c.max.ensures in
    let n : c.expr_room.result ≡ saturated (expr_room (room_in c.args.rooms.now) c.in-Assign.right) = c.expr_room.ensures in
    omega arith

pub statement_room-returns-in-If : goal.statement_room-returns-in-If
statement_room-returns-in-If t c =
    let r = statement_room_at (room_in c.args.rooms.now) c.args.statement.now (Statement-F.If c.in-If.test c.in-If.taken c.in-If.other) (c.in-If.is ∙ sym (rolls-If c.in-If.test c.in-If.taken c.in-If.other)) in
    grind (arith, r)

pub statement_room-returns-in-Case : goal.statement_room-returns-in-Case
statement_room-returns-in-Case t c =
    let r : statement_room (room_in c.args.rooms.now) c.args.statement.now ≡ max (expr_room (room_in c.args.rooms.now) c.in-Case.tested) (max (most (map (item_room_of (room_in c.args.rooms.now)) c.in-Case.items)) (statement_room (room_in c.args.rooms.now) c.in-Case.otherwise))
    = statement_room_at (room_in c.args.rooms.now) c.args.statement.now (Statement-F.Case c.in-Case.tested c.in-Case.items c.in-Case.otherwise) (c.in-Case.is ∙ sym (rolls-Case c.in-Case.tested c.in-Case.items c.in-Case.otherwise)) in
    let s : c.items_room.result ≡ saturated (most (map (item_room_of (room_in c.args.rooms.now)) c.in-Case.items)) = c.items_room.ensures ∙ ap (λ xs. saturated (most (map (item_room_of (room_in c.args.rooms.now)) xs))) c.as_slice-in-Case.ensures in
    let o : c.statement_room-in-Case.result ≡ saturated (statement_room (room_in c.args.rooms.now) c.in-Case.otherwise) = c.statement_room-in-Case.ensures ∙ ap (λ x. saturated (statement_room (room_in c.args.rooms.now) x)) c.get-in-Case.ensures in
    let n : c.expr_room-in-Case.result ≡ saturated (expr_room (room_in c.args.rooms.now) c.in-Case.tested) = c.expr_room-in-Case.ensures in
    let m : c.max-in-Case.result ≡ max c.items_room.result c.statement_room-in-Case.result = c.max-in-Case.ensures in
    let q : c.max-in-Case-2.result ≡ max c.expr_room-in-Case.result c.max-in-Case.result = c.max-in-Case-2.ensures in
    omega arith

pub statement_room-returns-in-Begin : goal.statement_room-returns-in-Begin
statement_room-returns-in-Begin t c =
    let r = statement_room_at (room_in c.args.rooms.now) c.args.statement.now (Statement-F.Begin c.in-Begin.statements) (c.in-Begin.is ∙ sym (rolls-Begin c.in-Begin.statements)) in
    grind (arith, r)

pub statement_room-returns-in-Empty : goal.statement_room-returns-in-Empty
statement_room-returns-in-Empty t c =
    let r = statement_room_at (room_in c.args.rooms.now) c.args.statement.now Statement-F.Empty (c.in-Empty.is ∙ sym rolls-Empty) in
    grind (arith, r)

pub statements_room-loop-s-preserved : goal.statements_room-loop-s-preserved
statements_room-loop-s-preserved t c =
    let m = most_take (statement_room (room_in c.args.rooms.now)) c.args.statements.now c.loop-s.s-index c.s-item.result c.s-item.is (omega arith) in
    grind (arith, m)

pub items_room-loop-item-preserved : goal.items_room-loop-item-preserved
items_room-loop-item-preserved t c =
    let m = most_take (item_room_of (room_in c.args.rooms.now)) c.args.items.now c.loop-item.item-index c.item-item.result c.item-item.is (omega arith) in
    let r = item_room_at (room_in c.args.rooms.now) c.item-item.result in
    grind (arith, m, r)
