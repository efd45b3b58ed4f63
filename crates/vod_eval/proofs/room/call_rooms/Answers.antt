use Rattle.std.proofs.Common.{◌≡◌, ◌+◌, ◌++◌, ◌∷◌, [], ◌∙◌, suc, ap, arith, add-one, length}
use Rattle.vod_eval.specs.Room.{room_in, call_room, statement_room}
use Rattle.vod_eval.proofs.Kept.{get_there}
use Rattle.vod_eval.proofs.RoomTable.{table, table_of, next_room}
use Rattle.vod_eval.proofs.room.call_rooms.Goals as goal

pub loop-function-preserved : goal.loop-function-preserved
loop-function-preserved c =
    let functions = c.args.functions.now in
    let k = c.loop-function.function-index in
    let f = c.function-item.result in
    let next = next_room functions k f (get_there functions k f c.function-item.is (omega arith)) in
    let rooms = c.deref.ensures.value ∙ c.loop-function.invariant in
    let same = ap (λ xs. length f.inputs + length f.locals + 1 + statement_room (room_in xs) f.body) rooms in
    let value : c.function_room-room.result ≡ call_room functions (suc k) k = omega (arith, next, same, c.function_room-room.ensures, c.if-room.false) in
    rw add-one (c.in_ok-push.ensures.items ∙ ap (λ xs. xs ++ c.function_room-room.result ∷ []) c.loop-function.invariant ∙ ap (λ m. table_of functions k ++ m ∷ []) value)

pub returns : goal.returns
returns c =
    let count : c.loop-function.function-index ≡ length c.args.functions.now = omega arith in
    ap room_in (c.loop-function.invariant ∙ ap (table_of c.args.functions.now) count) ∙ table c.args.functions.now (length c.args.functions.now)
