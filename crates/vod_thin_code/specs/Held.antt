-- What a log holds: the source of a design, and vectors in batches.
use Rattle.std.specs.Prelude.{◌≡◌, ℕ, ◌+◌, ◌≤◌, ◌==◌, ◌⊎◌, true, List, [], ◌∷◌, ◌++◌, length, All, None, if◌then◌else◌}
use Rattle.std.specs.Fmt.{decimal}
use Rattle.std.specs.Prelude.{codes}
use Rattle.vod_thin_design.specs.declared.thin.Vector.{Vector}
use Rattle.vod_thin_design.specs.Netlist.{Netlist}
use Rattle.vod_thin_design.specs.Vectors.{IsLawful, known_since, last_time}
use Rattle.vod_log.specs.declared.header.Header.{Header}
use Rattle.vod_log.specs.declared.header.Counts.{Counts}
use Rattle.vod_log.specs.declared.header.Kind.TheVariants.{Head, Batch}
use Rattle.vod_log.specs.Format.{Entry, committed}
use Rattle.vod_thin_code.specs.Bytes.{batch_bytes, IsHead, IsInForm}

-- how many vectors there are, the last time, and the time since when every input is known
abbrev pub counts : Netlist → List Vector → Counts
counts d vs = record { vectors = length vs; last = last_time vs; known = known_since d vs }

-- the header of a head with this source
abbrev pub head_header : List ℕ → Header
head_header source = record { kind = Head; length = 8 + length source; before = 0; after = 0; last = 0; known = None }

-- the header of a batch of these vectors, behind so many
abbrev pub batch_header : ℕ → List Vector → Counts → Header
batch_header before vs after = record { kind = Batch; length = length (batch_bytes vs); before = before; after = after.vectors; last = after.last; known = after.known }

-- a record is the batch of these vectors, behind those of before
pub record IsBatch (d : Netlist) (before : List Vector) (e : Entry) (vs : List Vector) : Type 0 where
  pub header : e.entry.header ≡ batch_header (length before) vs (counts d (before ++ vs))
  pub payload : e.payload ≡ batch_bytes vs
  pub some : 1 ≤ length vs
  pub few : length vs ≤ 64
  pub forms : All (IsInForm d) vs

-- these records are batches, which lead from the vectors of before to all of these
abbrev pub AreBatches : Netlist → List Vector → List Entry → List Vector → Type 0
AreBatches d before [] vs = vs ≡ before
AreBatches d before (e ∷ es) vs = (batch : List Vector) × IsBatch d before e batch × AreBatches d (before ++ batch) es vs

-- a log that ends at a closed gate: its head has this interval and source, and behind it are batches of these vectors
pub record IsHeld (d : Netlist) (source : List ℕ) (interval : ℕ) (vs : List Vector) (bytes : List ℕ) : Type 0 where
  pub framed : (committed bytes).framed ≡ true
  pub head : Entry
  pub batches : List Entry
  pub entries : (committed bytes).entries ≡ head ∷ batches
  pub is_head : IsHead head.payload interval source
  pub are_batches : AreBatches d [] batches vs

-- A sound log of a design and its source without an image: it holds lawful vectors, of which no image is due, or at most
-- the one behind the last batch.
pub record IsSound (d : Netlist) (source : List ℕ) (interval : ℕ) (vs : List Vector) (bytes : List ℕ) : Type 0 where
  pub held : IsHeld d source interval vs bytes
  pub lawful : IsLawful d vs
  pub no_image : length vs ≤ interval

-- an empty log: no record stands in it
pub record IsEmpty (bytes : List ℕ) : Type 0 where
  pub framed : (committed bytes).framed ≡ true
  pub none : (committed bytes).entries ≡ []

-- `ack N TIME` with its LF: so many vectors are held, the last at this time
abbrev pub ack : ℕ → ℕ → List ℕ
ack n time = codes "ack " ++ decimal n ++ (32 ∷ decimal time) ++ 10 ∷ []

-- What is said of vectors, one by one: so many are held or taken before, of which so many aren't committed, the last at this
-- time. A batch is committed with 64 vectors, and at the end.
abbrev pub said_from : ℕ → ℕ → ℕ → List Vector → List ℕ
said_from held fresh last [] = if fresh == 0 then [] else ack held last
said_from held fresh last (v ∷ vs) =
    if fresh + 1 == 64 then ack (held + 1) v.time ++ said_from (held + 1) 0 v.time vs else said_from (held + 1) (fresh + 1) v.time vs

-- what is said of the vectors of a script that begins a log
abbrev pub said : List Vector → List ℕ
said vs = said_from 0 0 0 vs

-- a text acknowledges so many vectors: it has a whole line `ack N TIME`
pub record Acknowledges (text : List ℕ) (n : ℕ) : Type 0 where
  pub front : List ℕ
  pub time : ℕ
  pub behind : List ℕ
  pub line : text ≡ front ++ ack n time ++ behind
  pub begins : (front ≡ []) ⊎ ((before : List ℕ) × (front ≡ before ++ 10 ∷ []))
