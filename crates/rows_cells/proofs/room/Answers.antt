-- The room has as many values as the formula says.
use Rattle.std.proofs.Common.{◌≡◌, ◌∙◌, ap, arith, vec_len}
use Rattle.vod_eval.specs.Room.{room_of, room_in, expr_room}
use Rattle.rows_cells.proofs.room.Goals as goal

pub returns : goal.returns
unfolding room_of
returns c =
    let e = c.args.e.now in
    let whole : expr_room (room_in c.deref.result.now) e ≡ room_of c.args.functions.now e
    = ap (λ rooms. expr_room (room_in rooms) e) c.deref.ensures.value ∙ ap (λ calls. expr_room calls e) c.in_ok-rooms.ensures in
    let count : vec_len c.loop.room ≡ c.loop.counter = c.loop.invariant in
    omega (arith, whole, c.expr_room-count.ensures, c.loop.room.small)
