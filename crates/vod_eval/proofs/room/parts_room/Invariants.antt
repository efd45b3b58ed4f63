use Rattle.std.proofs.Common.{◌≡◌, map, take}
use Rattle.vod_eval.specs.Room.{room_in, saturated, index_room, staged}
use Rattle.vod_eval.proofs.room.parts_room.Given as goal

abbrev pub invariant-loop-i : goal.invariant-loop-i
invariant-loop-i l = l.room ≡ saturated (staged (map (λ p. index_room (room_in l.rooms) p.target) (take l.i l.parts)))
