-- The room has as many values as the formula says.
use Rattle.std.proofs.Common.{◌≡◌, ◌∙◌, ap, arith, vec_len, []}
use Rattle.vod_eval.specs.Room.{room_in, call_room, statement_room}
use Rattle.rows_values.proofs.both.space.Goals as goal

pub returns : goal.returns
returns g c =
    let s = c.args.s.now in
    let whole : statement_room (room_in c.deref.result.now) s ≡ statement_room (call_room [] 0) s
    = ap (λ rooms. statement_room (room_in rooms) s) c.deref.ensures.value ∙ ap (λ calls. statement_room calls s) c.in_ok-rooms.ensures in
    let count : vec_len c.loop.room ≡ c.loop.counter = c.loop.invariant in
    omega (arith, whole, c.statement_room-count.ensures, c.loop.room.small)
