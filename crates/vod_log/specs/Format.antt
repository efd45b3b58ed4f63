-- The bytes of a log: records behind gates, and what of them is committed.
use Rattle.std.specs.Prelude.{ℕ, zero, suc, ◌+◌, ◌-◌, ◌^◌, ◌==◌, ◌&&◌, ◌||◌, nat_lt, nat_le, Bool, true, false, if◌then◌else◌, List, [], ◌∷◌, length, take, drop, slice_index, Option, None, Some, is_none}
use Rattle.std.specs.Int.{w64, from_le_bytes}
use Rattle.std.specs.Option.{option_eq}
use Rattle.vod_log.specs.declared.header.Kind.{Kind}
use Rattle.vod_log.specs.declared.header.Kind.TheVariants.{Head, Batch, Image}
use Rattle.vod_log.specs.declared.header.Header.{Header}
use Rattle.vod_log.specs.declared.header.Counts.{Counts}
use Rattle.vod_log.specs.declared.log.Record.{Record}

-- the number of the eight bytes at an offset, the lowest byte first
abbrev pub number_at : ℕ → List ℕ → ℕ
number_at at bytes = from_le_bytes w64 (take 8 (drop at bytes))

-- the number of a kind
abbrev pub kind_number : Kind → ℕ
kind_number Head = 1
kind_number Batch = 2
kind_number Image = 3

-- the kind with a number from 1 to 3
abbrev pub kind_of : ℕ → Kind
kind_of number = if number == 1 then Head else (if number == 2 then Batch else Image)

-- two kinds are the same
abbrev pub same_kind : Kind → Kind → Bool
same_kind kind other = kind_number kind == kind_number other

-- the number of the known-since time where there is none: all ones
abbrev pub never : ℕ
never = 2 ^ 64 - 1

-- the known-since time with a number
abbrev pub known_of : ℕ → Option ℕ
known_of number = if number == never then None else Some number

-- two known-since times are the same
abbrev pub same_known : Option ℕ → Option ℕ → Bool
same_known known other = option_eq (λ time time'. time == time') known other

-- a header begins with `VODR`, a kind from 1 to 3, version 1, and two zeros
abbrev pub begins_header : List ℕ → Bool
begins_header b =
    (slice_index b 0 == 86) && (slice_index b 1 == 79) && (slice_index b 2 == 68) && (slice_index b 3 == 82)
    && nat_le 1 (slice_index b 4) && nat_le (slice_index b 4) 3 && (slice_index b 5 == 1) && (slice_index b 6 == 0) && (slice_index b 7 == 0)

-- the fields of a header
abbrev pub fields_of : List ℕ → Header
fields_of b = record {
  kind = kind_of (slice_index b 4);
  length = number_at 8 b;
  before = number_at 16 b;
  after = number_at 24 b;
  last = number_at 32 b;
  known = known_of (number_at 40 b);
}

-- the header that these bytes are
abbrev pub header_of : List ℕ → Option Header
header_of b = if begins_header b then Some (fields_of b) else None

-- the head, which is record 0: no vectors, no times, and a payload of 8 to 1,048,584 bytes
abbrev pub is_head : Header → Bool
is_head h =
    same_kind h.kind Head && (h.before == 0) && (h.after == 0) && (h.last == 0) && is_none h.known
    && nat_le 8 h.length && nat_le h.length 1048584

-- a known-since time is past one last time and not past the next, where there is one
abbrev pub is_fresh : Option ℕ → ℕ → ℕ → Bool
is_fresh None past last = true
is_fresh (Some time) past last = nat_lt past time && nat_le time last

-- the known-since time stays, or is now a time past the previous last one and not past this one
abbrev pub keeps_known : Header → Header → Bool
keeps_known p h = if is_none p.known then is_fresh h.known p.last h.last else same_known h.known p.known

-- a batch: 1 to 64 vectors more, to at most 4,294,967,295, with a later last time, and a payload of at most 787,200 bytes
abbrev pub is_batch : Header → Header → Bool
is_batch p h =
    same_kind h.kind Batch && (h.before == p.after) && nat_lt p.after h.after && nat_le h.after (p.after + 64) && nat_le h.after 4294967295
    && nat_lt p.last h.last && nat_le h.last (2 ^ 63 - 1) && keeps_known p h && nat_le h.length 787200

-- an image directly behind a batch: its counts and times, and a payload of at most 1,048,576 bytes
abbrev pub is_image : Header → Header → Bool
is_image p h =
    same_kind h.kind Image && same_kind p.kind Batch && (h.before == p.after) && (h.after == p.after) && nat_le 1 p.after
    && (h.last == p.last) && same_known h.known p.known && nat_le h.length 1048576

-- a header may stand behind the previous one, or as the first
abbrev pub follows : Option Header → Header → Bool
follows None h = is_head h
follows (Some p) h = is_batch p h || is_image p h

-- a committed record: where it stands, its header, and its payload
pub record Entry : Type 0 where
  pub entry : Record
  pub payload : List ℕ

-- what a reading gives: the records, the gate where it ends, the last header, and whether it ends at a closed gate or at a wrong record
pub record Reading : Type 0 where
  pub entries : List Entry
  pub gate : ℕ
  pub last : Option Header
  pub framed : Bool

-- a header that may stand here, whose payload and next gate are inside what is left
abbrev pub accepted : Option Header → ℕ → Option Header → Option Header
accepted prev size None = None
accepted prev size (Some h) = if follows prev h && nat_lt (48 + h.length) size then Some h else None

-- the header of the record behind an open gate
abbrev pub record_at : Option Header → List ℕ → Option Header
record_at prev rest = accepted prev (length rest) (header_of (take 48 rest))

-- the record behind the gate at an offset
abbrev pub entry_of : ℕ → Header → List ℕ → Entry
entry_of at h rest = record { entry = record { at = at; header = h }; payload = take h.length (drop 48 rest) }

abbrev pub behind : Entry → Reading → Reading
behind e r = record r { entries = e ∷ r.entries }

-- at a closed gate the reading ends; at an open one a right record is committed
abbrev pub gate_read : Option Header → ℕ → List ℕ → Bool → Option Header → (Header → Reading) → Reading
gate_read prev at rest true found more = record { entries = []; gate = at; last = prev; framed = true }
gate_read prev at rest false None more = record { entries = []; gate = at; last = prev; framed = false }
gate_read prev at rest false (Some h) more = behind (entry_of at h rest) (more h)

-- the reading from an offset on, where so many bytes are passed over before the next gate
abbrev pub reading : Option Header → ℕ → ℕ → List ℕ → Reading
reading prev skip at [] = record { entries = []; gate = at; last = prev; framed = false }
reading prev zero at (g ∷ rest) = gate_read prev at rest (g == 0) (record_at prev rest) (λ h. reading (Some h) (48 + h.length) (at + 1) rest)
reading prev (suc n) at (b ∷ rest) = reading prev n (at + 1) rest

-- what is committed of the bytes of a log; one byte or none is an empty log
abbrev pub committed : List ℕ → Reading
committed bytes = if nat_le (length bytes) 1 then record { entries = []; gate = 0; last = None; framed = true } else reading None 0 0 bytes

-- the vectors held, the last time, and the time since when all inputs are known
abbrev pub counts_of : Option Header → Counts
counts_of None = record { vectors = 0; last = 0; known = None }
counts_of (Some h) = record { vectors = h.after; last = h.last; known = h.known }
