use Rattle.std.proofs.Common.{◌≡◌, map, take}
use Rattle.vod_eval.specs.Room.{room_in, saturated, expr_room, most, staged}
use Rattle.vod_eval.proofs.room.+expr.Given as goal

abbrev pub invariant-most_room-loop-e : goal.invariant-most_room-loop-e
invariant-most_room-loop-e l = l.room ≡ saturated (most (map (expr_room (room_in l.rooms)) (take l.e-index l.exprs)))

abbrev pub invariant-staged_room-loop-i : goal.invariant-staged_room-loop-i
invariant-staged_room-loop-i l = l.room ≡ saturated (staged (map (expr_room (room_in l.rooms)) (take l.i l.exprs)))
