-- A deck in memory: what its calls did, and what a crash may leave of it.
use Rattle.std.specs.Prelude.{◌≡◌, ℕ, ◌+◌, ◌-◌, ◌/◌, ◌%◌, ◌^◌, ◌≤◌, ◌<◌, ◌==◌, ◌⊎◌, max, Bool, true, false, if◌then◌else◌, List, [], ◌∷◌, ◌++◌, length, take, drop, replicate, Option, None, Some}
use Rattle.vod_deck.specs.Outcomes.{Outcome, View, Torn}
use Rattle.vod_io.specs.InMemory.{counted}
use Rattle.vod_deck.specs.declared.in_memory.Call.{Call}
use Rattle.vod_deck.specs.declared.in_memory.Room.{Room}
use Rattle.vod_deck.specs.declared.in_memory.Call.TheVariants.{Wrote, Synced, Said}

-- bytes at an offset of a file
pub record Piece : Type 0 where
  pub at : ℕ
  pub bytes : List ℕ

-- a moment of a deck: a write that is held or failed, a sync, a text that is given, and that all text given so far is sure
pub data Event : Type 0 where
  Write : Piece → Bool → Event
  Sync : Event
  Give : List ℕ → Event
  Sure : Event

-- the file at the last sync, the writes since with the last one first, the file as a read gives it, the text given, and how much of it is sure
pub record Disk : Type 0 where
  pub file : List ℕ
  pub writes : List Piece
  pub reads : List ℕ
  pub given : List ℕ
  pub sure : ℕ

-- filled up with zeros to a length
abbrev pub padded : ℕ → List ℕ → List ℕ
padded n bytes = bytes ++ replicate (n - length bytes) 0

-- a file with bytes laid over it, the gap before them filled with zeros; no bytes change nothing
abbrev pub laid : ℕ → List ℕ → List ℕ → List ℕ
laid at [] file = file
laid at (b ∷ bs) file = padded at (take at file) ++ (b ∷ bs) ++ drop (at + length (b ∷ bs)) file

abbrev pub after : Disk → Event → Disk
after d (Write w held) = record d { writes = w ∷ d.writes; reads = (if held then laid w.at w.bytes d.reads else d.reads) }
after d Sync = record d { file = d.reads; writes = [] }
after d (Give text) = record d { given = d.given ++ text }
after d Sure = record d { sure = length d.given }

-- a disk after these events
abbrev pub run : Disk → List Event → Disk
run d [] = d
run d (e ∷ es) = run (after d e) es

-- a disk that holds these bytes, before any event
abbrev pub fresh : List ℕ → Disk
fresh bytes = record { file = bytes; writes = []; reads = bytes; given = []; sure = 0 }

-- each of the writes in turn, the last one first in the list, may be torn
abbrev pub IsTorn : List Piece → List ℕ → List ℕ → Type 0
IsTorn [] old new = new ≡ old
IsTorn (w ∷ ws) old new = (mid : List ℕ) × IsTorn ws old mid × Torn w.at (length w.bytes) mid new

-- a front of the text given that has all that is sure
abbrev pub IsFront : Disk → List ℕ → Type 0
IsFront d said = (n : ℕ) × (d.sure ≤ n) × (said ≡ take n d.given)

-- what a crash may leave of a disk
pub record IsOutcome (d : Disk) (c : Outcome) : Type 0 where
  pub file : IsTorn d.writes d.file c.file
  pub said : IsFront d c.said

-- what a crash at the t-th event or later may have left
abbrev pub LeftSince : List ℕ → List Event → ℕ → Outcome → Type 0
LeftSince first events t c = (k : ℕ) × (t ≤ k) × (k ≤ length events) × IsOutcome (run (fresh first) (take k events)) c

-- whether bit i of a number is 1
abbrev pub has_bit : ℕ → ℕ → Bool
has_bit number i = (number / 2 ^ i) % 2 == 1

-- the whole of a write's bytes, their first half, or none
abbrev pub part_of : Bool → Bool → List ℕ → List ℕ
part_of false half bytes = bytes
part_of true true bytes = take (length bytes / 2) bytes
part_of true false bytes = []

-- what a pick keeps of the i-th write
abbrev pub kept : ℕ → ℕ → List ℕ → List ℕ
kept pick i bytes = part_of (has_bit pick (i % 32)) (has_bit pick (32 + i % 32)) bytes

-- the file that a pick leaves of the writes
abbrev pub picked : ℕ → List Piece → List ℕ → List ℕ
picked pick [] file = file
picked pick (w ∷ ws) file = laid w.at (kept pick (length ws) w.bytes) (picked pick ws file)

-- the events of the calls that did something, by the bytes and the texts that they were handed
abbrev pub events_of : List ℕ → List ℕ → List Call → List Event
events_of bytes texts [] = []
events_of bytes texts (Wrote at n held ∷ cs) = Write (record { at = at; bytes = take n bytes }) held ∷ events_of (drop n bytes) texts cs
events_of bytes texts (Synced true ∷ cs) = Sync ∷ events_of bytes texts cs
events_of bytes texts (Synced false ∷ cs) = events_of bytes texts cs
events_of bytes texts (Said n true ∷ cs) = Give (take n texts) ∷ Sure ∷ events_of bytes (drop n texts) cs
events_of bytes texts (Said n false ∷ cs) = Give (take n texts) ∷ events_of bytes (drop n texts) cs

-- what callers see of a deck in memory: the bytes of the start, the bytes as a read gives them, all bytes written and all text given, the calls that did something, the room, the calls that fail, after how many calls it stops, and the counts of calls, of faults and of bytes read
pub record MemView : Type 0 where
  pub first : List ℕ
  pub bytes : List ℕ
  pub wrote : List ℕ
  pub texts : List ℕ
  pub calls : List Call
  pub room : Room
  pub fails : List ℕ
  pub stop : Option ℕ
  pub made : ℕ
  pub faults : ℕ
  pub bytes_read : ℕ

-- a deck as the events of its calls give it
abbrev pub stop_view : List ℕ → List Event → List ℕ → ℕ → ℕ → View
stop_view first events bytes faults bytes_read = record {
  bytes = bytes;
  may_leave = IsOutcome (run (fresh first) events);
  moment = length events;
  left_since = LeftSince first events;
  faults = faults;
  bytes_read = bytes_read;
}

-- the events of a deck
abbrev pub history : MemView → List Event
history v = events_of v.wrote v.texts v.calls

-- the disk of a deck, now
abbrev pub disk_of : MemView → Disk
disk_of v = run (fresh v.first) (history v)

-- a deck in memory as each deck is seen
abbrev pub told : MemView → View
told v = stop_view v.first (history v) v.bytes v.faults v.bytes_read

-- a deck stops after this many calls
abbrev pub IsStopped : Option ℕ → ℕ → Type 0
IsStopped None made = ⊥
IsStopped (Some calls) made = calls ≤ made

-- a write of n bytes is behind the stop or past the room
abbrev pub RefusesWrite : MemView → ℕ → Type 0
RefusesWrite v n = IsStopped v.stop v.made ⊎ ((v.room.bytes < length v.wrote + n) ⊎ (v.room.calls ≤ length v.calls))

-- a sync is behind the stop or past the room
abbrev pub RefusesSync : MemView → Type 0
RefusesSync v = IsStopped v.stop v.made ⊎ (v.room.calls ≤ length v.calls)

-- a text of n bytes is behind the stop or past the room
abbrev pub RefusesText : MemView → ℕ → Type 0
RefusesText v n = IsStopped v.stop v.made ⊎ ((v.room.said < length v.texts + n) ⊎ (v.room.calls ≤ length v.calls))

-- a deck after one more call
abbrev pub spent : MemView → MemView
spent v = record v { made = counted v.made }

-- a deck after one more call, which counted a fault
abbrev pub faulted : MemView → MemView
faulted v = record v { made = counted v.made; faults = counted v.faults }

-- the shortest text that a crash may leave
abbrev pub sure_text : Disk → List ℕ
sure_text d = take d.sure d.given

-- how far the writes reach
abbrev pub reach : List ℕ → List Piece → ℕ
reach file [] = length file
reach file (w ∷ ws) = max (reach file ws) (w.at + length w.bytes)

-- no write leaves a gap
abbrev pub IsJoined : List ℕ → List Piece → Type 0
IsJoined file [] = Unit {0}
IsJoined file (w ∷ ws) = (w.at ≤ reach file ws) × IsJoined file ws

-- a disk reads as these bytes, was given this text with this front of it sure, and is one of its outcomes
pub record IsDisk (d : Disk) (bytes texts : List ℕ) (sure : ℕ) : Type 0 where
  pub reads : bytes ≡ d.reads
  pub given : texts ≡ d.given
  pub sure_is : sure ≡ d.sure
  pub within : d.sure ≤ length d.given
  pub joined : IsJoined d.file d.writes
  pub reaches : length d.reads ≤ reach d.file d.writes
  pub torn : IsTorn d.writes d.file d.reads

-- how many bytes the calls wrote
abbrev pub total_wrote : List Call → ℕ
total_wrote [] = 0
total_wrote (Wrote at n held ∷ cs) = n + total_wrote cs
total_wrote (Synced held ∷ cs) = total_wrote cs
total_wrote (Said n held ∷ cs) = total_wrote cs

-- how many bytes of text the calls were given
abbrev pub total_said : List Call → ℕ
total_said [] = 0
total_said (Wrote at n held ∷ cs) = total_said cs
total_said (Synced held ∷ cs) = total_said cs
total_said (Said n held ∷ cs) = n + total_said cs

-- what a deck in memory keeps
pub record IsMemory (first bytes wrote texts : List ℕ) (calls : List Call) (sure : ℕ) : Type 0 where
  pub all_wrote : total_wrote calls ≡ length wrote
  pub all_said : total_said calls ≡ length texts
  pub disk : IsDisk (run (fresh first) (events_of wrote texts calls)) bytes texts sure
