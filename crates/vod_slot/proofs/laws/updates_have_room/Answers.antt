use Rattle.vod_slot.proofs.Rooms.{IsRoomKept-start_of, IsRoomKept-opened, IsRoomKept-after, room_suffices}
use Rattle.vod_slot.proofs.laws.updates_have_room.Goals as goal

pub returns-clause-start : goal.returns-clause-start
returns-clause-start c = IsRoomKept-start_of

pub returns-clause-opened : goal.returns-clause-opened
returns-clause-opened c = IsRoomKept-opened

pub returns-clause-after : goal.returns-clause-after
returns-clause-after c = IsRoomKept-after

pub returns-clause-suffices : goal.returns-clause-suffices
returns-clause-suffices c = room_suffices
