-- What is recorded of vectors, and what a crash leaves.
use Rattle.std.specs.Prelude.{◌≡◌, ℕ, zero, suc, ◌*◌, ◌≤◌, min, nat_le, List, [], ◌∷◌, ◌++◌, length, take, drop, map, Option, None, Some, ◌⊎◌, if◌then◌else◌}
use Rattle.vod_deck.specs.Outcomes.{Outcome, View, From, Leaves}
use Rattle.vod_thin_design.specs.declared.thin.Vector.{Vector}
use Rattle.vod_thin_design.specs.Netlist.{Netlist}
use Rattle.vod_log.specs.declared.header.Header.{Header}
use Rattle.vod_log.specs.Format.{Reading, committed, counts_of}
use Rattle.vod_log.specs.Tail.{HoldsEither, IsSettled}
use Rattle.vod_thin_code.specs.Bytes.{batch_bytes}
use Rattle.vod_thin_code.specs.Held.{counts, said, IsHeld, IsSound}

-- an outcome has the text of one before, and behind it this one
abbrev pub HasSaid : List ℕ → Outcome → Outcome → Type 0
HasSaid text d c = c.said ≡ d.said ++ text

-- a text begins with this one
abbrev pub BeginsWith : List ℕ → List ℕ → Type 0
BeginsWith text front = (rest : List ℕ) × (text ≡ front ++ rest)

-- an outcome has the records of one before, and its text
pub record IsAsBefore (e c : Outcome) : Type 0 where
  pub file : committed c.file ≡ committed e.file
  pub text : c.said ≡ e.said

-- the first n batches in which vectors are recorded: 64 vectors each, and in the last what is left
abbrev pub first_batches : ℕ → List Vector → List (List Vector)
first_batches zero vs = []
first_batches (suc n) vs = take 64 vs ∷ first_batches n (drop 64 vs)

-- the payloads behind the head of a log
abbrev pub payloads_of : List ℕ → List (List ℕ)
payloads_of bytes = map (λ e. e.payload) (drop 1 (committed bytes).entries)

-- a log holds the first of these batches of vectors, and no others
abbrev pub HoldsBatches : List Vector → List ℕ → Type 0
HoldsBatches vs bytes = (n : ℕ) × (payloads_of bytes ≡ map batch_bytes (first_batches n vs))

-- an outcome holds the first k vectors in whole batches, and behind the text of one before it has a front of what is said of these
pub record HoldsFirst (d : Netlist) (source : List ℕ) (vs : List Vector) (e c : Outcome) (k : ℕ) : Type 0 where
  pub most : k ≤ length vs
  pub sound : IsSound d source 4096 (take k vs) c.file
  pub batches : HoldsBatches vs c.file
  pub front : List ℕ
  pub text : c.said ≡ e.said ++ front
  pub begins : BeginsWith (said (take k vs)) front

-- an outcome holds some first vectors, and has acknowledged no others
abbrev pub Adds : Netlist → List ℕ → List Vector → Outcome → Outcome → Type 0
Adds d source vs e c = (k : ℕ) × HoldsFirst d source vs e c k

-- what a crash leaves while vectors are recorded, from an outcome at entry
abbrev pub Records : Netlist → List ℕ → List Vector → Outcome → Outcome → Type 0
Records d source vs e c = IsAsBefore e c ⊎ Adds d source vs e c

-- an outcome holds the new record too, and has a front of the text that is said then
pub record HasBegunToSay (new : Reading) (text : List ℕ) (d c : Outcome) : Type 0 where
  pub file : committed c.file ≡ new
  pub count : ℕ
  pub front : c.said ≡ d.said ++ take count text

-- an outcome while a record is appended and then a text is said
abbrev pub Commits : Reading → Reading → List ℕ → Outcome → Outcome → Type 0
Commits old new text d c = HoldsEither old new d c ⊎ HasBegunToSay new text d c

-- the time since when every input is known, where it isn't past this last time
abbrev pub known_by : Option ℕ → ℕ → Option ℕ
known_by None last = None
known_by (Some time) last = if nat_le time last then Some time else None

-- the last header of a log has the counts of these vectors
pub record EndsWith (d : Netlist) (vs : List Vector) (last : Option Header) : Type 0 where
  pub header : Header
  pub is : last ≡ Some header
  pub has_counts : counts_of (Some header) ≡ counts d vs

-- a deck holds a log of the first k vectors, all of them acknowledged since the entry, and what a crash left since
pub record HasStored (d : Netlist) (source : List ℕ) (vs : List Vector) (k : ℕ) (entry now : View) (gate : ℕ) (last : Option Header) : Type 0 where
  pub held : IsHeld d source 4096 (take k vs) now.bytes
  pub count : ℕ
  pub reached : k ≡ min (64 * count) (length vs)
  pub batches : payloads_of now.bytes ≡ map batch_bytes (first_batches count vs)
  pub settled : IsSettled now gate last
  pub outcomes : (c : Outcome) → now.may_leave c → From entry.may_leave (HasSaid (said (take k vs))) c
  pub crashes : Leaves entry now (From entry.may_leave (Adds d source vs))
