use Rattle.std.proofs.Common.{arith}
use Rattle.vod_eval.specs.Room.{room_in, index_room}
use Rattle.vod_eval.proofs.Kept.{staged_take}
use Rattle.vod_eval.proofs.room.parts_room.Goals as goal

pub loop-i-preserved : goal.loop-i-preserved
loop-i-preserved c =
    let m = staged_take (λ p. index_room (room_in c.args.rooms.now) p.target) c.args.parts.now c.loop-i.i c.index-parts-i.result c.index-parts-i.is (omega arith) in
    grind (arith, m)
