-- The end of a log, and one more record behind it.
use Rattle.std.specs.Prelude.{◌≡◌, ℕ, ◌+◌, ◌*◌, ◌^◌, ◌≤◌, ◌<◌, ◌⊎◌, ◌==◌, Bool, true, if◌then◌else◌, List, [], ◌∷◌, ◌++◌, length, take, slice_index, Option, None, Some}
use Rattle.vod_deck.specs.Outcomes.{Outcome, View, Holds, Only, SameOutcomes}
use Rattle.vod_log.specs.declared.header.Kind.TheVariants.{Image}
use Rattle.vod_log.specs.Format.{Reading, same_kind, begins_header, fields_of, follows, entry_of, committed}
use Rattle.vod_log.specs.declared.header.Header.{Header}

-- the header of a frame
abbrev pub frame_header : List ℕ → Header
frame_header frame = fields_of (take 48 frame)

-- a frame goes on behind this last header: a right header, its payload, and a closed gate
pub record Continues (last : Option Header) (frame : List ℕ) : Type 0 where
  pub begins : begins_header (take 48 frame) ≡ true
  pub right : follows last (frame_header frame) ≡ true
  pub long : length frame ≡ 49 + (frame_header frame).length
  pub closed : slice_index frame (48 + (frame_header frame).length) ≡ 0

-- what is committed with one more record at this gate
abbrev pub appended : Reading → ℕ → List ℕ → Reading
appended r gate frame = record {
  entries = r.entries ++ entry_of gate (frame_header frame) frame ∷ [];
  gate = gate + length frame;
  last = Some (frame_header frame);
  framed = true;
}

-- these bytes are framed, with this last header, and end at this closed gate
pub record EndsAt (bytes : List ℕ) (gate : ℕ) (last : Option Header) : Type 0 where
  pub framed : (committed bytes).framed ≡ true
  pub gate_is : (committed bytes).gate ≡ gate
  pub last_is : (committed bytes).last ≡ last
  pub inside : gate < length bytes
  pub closed : slice_index bytes gate ≡ 0

-- a log on a deck ends so, and a crash leaves the file as a read gives it
pub record IsSettled (v : View) (gate : ℕ) (last : Option Header) : Type 0 where
  pub ends : EndsAt v.bytes gate last
  pub lasts : Only v.bytes v.may_leave

-- an outcome holds the records of before, or the new one too, and its text is that of an outcome of before
pub record HoldsEither (old new : Reading) (d c : Outcome) : Type 0 where
  pub file : (committed c.file ≡ old) ⊎ (committed c.file ≡ new)
  pub said : c.said ≡ d.said

-- an outcome has the file of one of before, or where the deck read as one byte or none, one byte or none; its text is of the same outcome
pub record Opens (bytes : List ℕ) (d c : Outcome) : Type 0 where
  pub file : (c.file ≡ d.file) ⊎ ((length bytes ≤ 1) × (length d.file ≤ 1) × (length c.file ≤ 1))
  pub said : c.said ≡ d.said

-- a call left what a read gives, and the outcomes
pub record IsUnchanged (old new : View) : Type 0 where
  pub bytes : new.bytes ≡ old.bytes
  pub outcomes : SameOutcomes old new

-- how many records may stand before a last header, at most
abbrev pub records_before : Option Header → ℕ
records_before None = 0
records_before (Some h) = 2 * h.after + (if same_kind h.kind Image then 2 else 1)

-- a gate is no further than its records reach, of which none has 2^21 bytes
pub record IsNear (gate : ℕ) (last : Option Header) : Type 0 where
  pub near : gate ≤ 2 ^ 21 * records_before last
  pub few : records_before last ≤ 2 ^ 33

-- the end of a log: its gate, the last header, and whether an append failed
pub record TailView : Type 0 where
  pub gate : ℕ
  pub last : Option Header
  pub broken : Bool

-- the bytes of a log after an append: the frame stands behind the gate where the log ended, and that gate is opened with 1
abbrev pub IsAppended : List ℕ → ℕ → List ℕ → List ℕ → Type 0
IsAppended old gate frame new = (written : List ℕ) × Holds old (gate + 1) frame written × Holds written gate (1 ∷ []) new
