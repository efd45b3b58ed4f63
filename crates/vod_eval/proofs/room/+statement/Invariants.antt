use Rattle.std.proofs.Common.{◌≡◌, map, take}
use Rattle.vod_eval.specs.Room.{room_in, saturated, statement_room, item_room_of, most}
use Rattle.vod_eval.proofs.room.+statement.Given as goal

abbrev pub invariant-statements_room-loop-s : goal.invariant-statements_room-loop-s
invariant-statements_room-loop-s l = l.room ≡ saturated (most (map (statement_room (room_in l.rooms)) (take l.s-index l.statements)))

abbrev pub invariant-items_room-loop-item : goal.invariant-items_room-loop-item
invariant-items_room-loop-item l = l.room ≡ saturated (most (map (item_room_of (room_in l.rooms)) (take l.item-index l.items)))
