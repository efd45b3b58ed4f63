-- The room that a deck in memory keeps.
use Rattle.std.specs.Prelude.{◌+◌, ◌≤◌, vec_len, vec_capacity}
use Rattle.vod_deck.specs.declared.in_memory.MemDeck.TheInside.{Inside}

-- what its calls used is within its room, and its buffers have this room
pub record HasRoom (s : Inside) : Type 0 where
  pub wrote : vec_len s.wrote ≤ s.room.bytes
  pub texts : vec_len s.texts ≤ s.room.said
  pub calls : vec_len s.calls ≤ s.room.calls
  pub room_wrote : s.room.bytes ≤ vec_capacity s.wrote
  pub room_texts : s.room.said ≤ vec_capacity s.texts
  pub room_calls : s.room.calls ≤ vec_capacity s.calls
  pub bytes : vec_len s.bytes ≤ vec_len s.first + vec_len s.wrote
  pub room_bytes : vec_len s.first + s.room.bytes ≤ vec_capacity s.bytes
