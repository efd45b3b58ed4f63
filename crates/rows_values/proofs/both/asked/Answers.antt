-- The parts of a statement take no more room than the whole.
use Rattle.std.proofs.Common.{◌∙◌, sym, map, [], arith}
use Rattle.vod_design.specs.declared.statement.Part.{Part}
use Rattle.vod_design.specs.declared.statement.Statement.TheOpen.{Statement-F}
use Rattle.vod_design.specs.declared.statement.Statement.TheVariants.{rolls-Assign, rolls-If, rolls-Case}
use Rattle.vod_eval.specs.Room.{room_of, items_room, parts_room, call_room, index_room}
use Rattle.vod_eval.proofs.Layers.{statement_room_at, labels_room_below}
use Rattle.rows_values.proofs.Rooms.{most_below}
use Rattle.rows_values.proofs.both.asked.Goals as goal

pub is_taken-requires : goal.is_taken-requires
unfolding room_of
is_taken-requires g c =
    let whole = statement_room_at (call_room [] 0) c.args.s.now (Statement-F.If c.in-If.test c.in-If.field-1 c.in-If.field-2) (c.in-If.is ∙ sym (rolls-If c.in-If.test c.in-If.field-1 c.in-If.field-2)) in
    omega (arith, whole, c.requires)

pub item_taken-requires-clause-tested : goal.item_taken-requires-clause-tested
unfolding room_of
item_taken-requires-clause-tested g c =
    let whole = statement_room_at (call_room [] 0) c.args.s.now (Statement-F.Case c.in-Case.tested c.in-Case.items c.in-Case.field-2) (c.in-Case.is ∙ sym (rolls-Case c.in-Case.tested c.in-Case.items c.in-Case.field-2)) in
    omega (arith, whole, c.requires)

pub item_taken-requires-clause-items : goal.item_taken-requires-clause-items
unfolding items_room
item_taken-requires-clause-items g c =
    let whole = statement_room_at (call_room [] 0) c.args.s.now (Statement-F.Case c.in-Case.tested c.in-Case.items c.in-Case.field-2) (c.in-Case.is ∙ sym (rolls-Case c.in-Case.tested c.in-Case.items c.in-Case.field-2)) in
    let labels = labels_room_below (call_room [] 0) c.in-Case.items in
    rw c.as_slice.ensures (omega (arith, whole, labels, c.requires))

pub place-requires : goal.place-requires
unfolding parts_room
place-requires g c =
    let whole = statement_room_at (call_room [] 0) c.args.s.now (Statement-F.Assign c.in-Assign.parts c.in-Assign.field-1) (c.in-Assign.is ∙ sym (rolls-Assign c.in-Assign.parts c.in-Assign.field-1)) in
    let indices = most_below (map (λ (p : Part). index_room (call_room [] 0) p.target) c.in-Assign.parts) in
    rw c.as_slice-in-Assign.ensures (omega (arith, whole, indices, c.requires))
