-- The source and the vectors of a log that was opened.
use Rattle.std.specs.Prelude.{◌≡◌, ℕ, ◌+◌, ◌<◌, ◌≤◌, ◌^◌, ◌⊎◌, nat_lt, if◌then◌else◌, List, [], ◌∷◌, ◌++◌, length, drop, All}
use Rattle.vod_thin_design.specs.declared.thin.Vector.{Vector}
use Rattle.vod_thin_design.specs.Netlist.{Netlist}
use Rattle.vod_thin_design.specs.Vectors.{IsLawful, times, known_since, last_time}
use Rattle.vod_log.specs.declared.header.Header.{Header}
use Rattle.vod_log.specs.declared.header.Kind.TheVariants.{Batch}
use Rattle.vod_log.specs.declared.log.Record.{Record}
use Rattle.vod_log.specs.Format.{Entry, committed}
use Rattle.vod_log.specs.Opened.{LogView, IsLogOf, ArePlaced, payload_at}
use Rattle.vod_thin_code.specs.Bytes.{IsHead, IsInForm, batch_bytes}
use Rattle.vod_thin_code.specs.Held.{IsBatch, AreBatches, IsHeld}
use Rattle.vod_thin_script.specs.History.{Past}
use Rattle.vod_thin_replay.specs.declared.ReplayFault.{ReplayFault}
use Rattle.vod_thin_replay.specs.declared.ReplayFault.TheVariants.{Deck, Damaged, Memory}

-- a log was opened on a deck with these bytes, which may tell them
pub record IsOpened (tells : Type 0) (bytes : List ℕ) (log : LogView) : Type 0 where
  pub log_of : tells → IsLogOf (committed bytes) log
  pub placed : tells → ArePlaced bytes log.records
  pub near : All (λ r. r.at < 2 ^ 63) log.records

-- a fact about the gate of a damaged record, where there is one
abbrev pub OnDamaged : ReplayFault → (ℕ → Type 0) → Type 0
OnDamaged Deck P = Unit {0}
OnDamaged (Damaged at) P = P at
OnDamaged Memory P = Unit {0}

-- the first record is a head with this source
pub record HoldsSource (bytes source : List ℕ) : Type 0 where
  pub interval : ℕ
  pub head : Entry
  pub batches : List Entry
  pub entries : (committed bytes).entries ≡ head ∷ batches
  pub is_head : IsHead head.payload interval source

-- the first record stands at this gate, and its payload is that of no head
pub record IsHeadless (bytes : List ℕ) (at : ℕ) : Type 0 where
  pub head : Entry
  pub batches : List Entry
  pub entries : (committed bytes).entries ≡ head ∷ batches
  pub gate_is : at ≡ head.entry.at
  pub no_head : (interval : ℕ) (source : List ℕ) → IsHead head.payload interval source → ⊥

-- no source is held: there is no record, which is told as gate 0, or the first is no head
abbrev pub IsHeadDamagedAt : List ℕ → ℕ → Type 0
IsHeadDamagedAt bytes at = (((committed bytes).entries ≡ []) × (at ≡ 0)) ⊎ IsHeadless bytes at

-- the records behind the head
abbrev pub behind_head : List ℕ → List Entry
behind_head bytes = drop 1 (committed bytes).entries

-- of records behind one with this last time, those up to the first that reaches a time
abbrev pub reaching : ℕ → ℕ → List Entry → List Entry
reaching to last [] = []
reaching to last (e ∷ es) = if nat_lt last to then e ∷ reaching to e.entry.header.last es else []

-- of these records, the batches up to the one that reaches a time, and no more, are of these vectors, which are lawful
pub record AreUpTo (d : Netlist) (es : List Entry) (to : ℕ) (vs : List Vector) : Type 0 where
  pub batches : AreBatches d [] (reaching to 0 es) vs
  pub lawful : IsLawful d vs

-- these are the vectors of a log up to the batch that reaches a time
abbrev pub IsReadUpTo : Netlist → List ℕ → ℕ → List Vector → Type 0
IsReadUpTo d bytes to vs = AreUpTo d (behind_head bytes) to vs

-- a log holds these vectors and then others; where all of them are lawful, the others are later than a time
abbrev pub IsHeldUpTo : Netlist → List ℕ → ℕ → List Vector → Type 0
IsHeldUpTo d bytes to past =
    (source : List ℕ) (interval : ℕ) (vs : List Vector) → IsHeld d source interval vs bytes →
    (rest : List Vector) × (vs ≡ past ++ rest) × (IsLawful d vs → All (λ t. to < t) (times rest))

-- these vectors are lawful, and the record behind them, at this gate, is no batch of vectors that are lawful behind them
pub record IsDamagedBehind (d : Netlist) (before : List Vector) (e : Entry) (at : ℕ) : Type 0 where
  pub gate_is : at ≡ e.entry.at
  pub lawful : IsLawful d before
  pub no_batch : (batch : List Vector) → IsBatch d before e batch → IsLawful d (before ++ batch) → ⊥

-- the first of these records that is no batch of lawful vectors stands at this gate
pub record IsDamagedAmong (d : Netlist) (es : List Entry) (at : ℕ) : Type 0 where
  pub front : List Entry
  pub damaged : Entry
  pub back : List Entry
  pub entries : es ≡ front ++ damaged ∷ back
  pub vectors : List Vector
  pub batches : AreBatches d [] front vectors
  pub refused : IsDamagedBehind d vectors damaged at

-- the first record behind the head that is no batch of lawful vectors stands at this gate
abbrev pub IsDamagedAt : Netlist → List ℕ → ℕ → Type 0
IsDamagedAt d bytes at = IsDamagedAmong d (behind_head bytes) at

-- and it is among those up to the batch that reaches a time
abbrev pub IsDamagedUpTo : Netlist → List ℕ → ℕ → ℕ → Type 0
IsDamagedUpTo d bytes to at = IsDamagedAmong d (reaching to 0 (behind_head bytes)) at

-- the committed record that an opened log has there
abbrev pub entry_at : List ℕ → Record → Entry
entry_at bytes r = record { entry = r; payload = payload_at bytes r }

-- a payload is vectors in form, which were added to those of before
pub record AddsPayload (d : Netlist) (payload : List ℕ) (before after : List Vector) : Type 0 where
  pub batch : List Vector
  pub bytes : payload ≡ batch_bytes batch
  pub forms : All (IsInForm d) batch
  pub added : after ≡ before ++ batch

-- a payload is no vectors in form that are lawful behind those of before
abbrev pub IsUnlawful : Netlist → List ℕ → List Vector → Type 0
IsUnlawful d payload before = (batch : List Vector) → payload ≡ batch_bytes batch → All (IsInForm d) batch → IsLawful d (before ++ batch) → ⊥

-- a record is a batch, whose vectors were added to those of before, and are lawful behind them
pub record AddsBatch (d : Netlist) (before : List Vector) (e : Entry) (after : List Vector) : Type 0 where
  pub batch : List Vector
  pub is_batch : IsBatch d before e batch
  pub added : after ≡ before ++ batch
  pub lawful : IsLawful d after

-- the header of a batch of 1 to 64 vectors, those behind this place, with so many bytes
pub record IsHeaded (before bytes : ℕ) (past : Past) (h : Header) : Type 0 where
  pub header : h ≡ record {
    kind = Batch;
    length = bytes;
    before = before;
    after = length past.vectors;
    last = last_time past.vectors;
    known = known_since past.design past.vectors;
  }
  pub some : before < length past.vectors
  pub few : length past.vectors ≤ before + 64
