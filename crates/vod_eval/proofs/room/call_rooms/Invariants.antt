use Rattle.std.proofs.Common.{◌≡◌}
use Rattle.vod_eval.proofs.RoomTable.{table_of}
use Rattle.vod_eval.proofs.room.call_rooms.Given as goal

abbrev pub invariant-loop-function : goal.invariant-loop-function
invariant-loop-function l = l.rooms.items ≡ table_of l.functions l.function-index
