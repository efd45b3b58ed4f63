-- Where the records of a reading stand in the bytes.
use Rattle.std.proofs.Common.{◌≡◌, ℕ, zero, suc, ◌+◌, ◌<◌, List, [], ◌∷◌, length, take, drop, map, All, refl, sym, ◌∙◌, ap, subst, arith, length-drop}
use Rattle.std.specs.Prelude.{Bool, true, false, ◌==◌, Option, None, Some, nat_le, if◌then◌else◌}
use Rattle.std.proofs.lemmas.List.{drop-drop}
use Rattle.std.proofs.lemmas.List.Elements.{All-map}
use Rattle.vod_log.specs.Format.{Entry, Reading, header_of, record_at, gate_read, reading, committed}
use Rattle.vod_log.specs.Opened.{LogView, IsLogOf, IsPlaced, ArePlaced, payload_at, records_of}
use Rattle.vod_log.specs.declared.header.Header.{Header}
use Rattle.vod_log.specs.declared.log.Record.{Record}
use Rattle.vod_log.proofs.Readings.{accepted-some}

-- an entry is placed, and its payload stands behind its header
record Stands (bytes : List ℕ) (e : Entry) : Type 0 where
  inside : IsPlaced bytes e.entry
  payload_is : e.payload ≡ payload_at bytes e.entry

all-none : (P : Entry → Type 0) → All P []
all-none P k d le = absurd (omega arith)

all-cons : (P : Entry → Type 0) (e : Entry) (es : List Entry) → P e → All P es → All P (e ∷ es)
all-cons P e es here rest zero d le = here
all-cons P e es here rest (suc k) d le = rest k d (omega arith)

placed-gate : (whole : List ℕ) (prev : Option Header) (at g : ℕ) (rest : List ℕ) (t : Bool) (found : Option Header) (more : Header → Reading) →
    drop at whole ≡ g ∷ rest → record_at prev rest ≡ found → ((h : Header) → All (Stands whole) (more h).entries) → All (Stands whole) (gate_read prev at rest t found more).entries
placed-gate whole prev at g rest true found more there found_is later = all-none (Stands whole)
placed-gate whole prev at g rest false None more there found_is later = all-none (Stands whole)
placed-gate whole prev at g rest false (Some h) more there found_is later =
    let size : 48 + h.length < length rest = (accepted-some prev (length rest) (header_of (take 48 rest)) h found_is).2 in
    let behind_gate : drop (at + 1) whole ≡ rest = sym (drop-drop 1 at whole) ∙ ap (λ xs. drop 1 xs) there in
    let place : at + 1 + 48 ≡ at + 49 = omega arith in
    let payload : drop 48 rest ≡ drop (at + 49) whole = ap (λ xs. drop 48 xs) (sym behind_gate) ∙ drop-drop 48 (at + 1) whole ∙ ap (λ n. drop n whole) place in
    all-cons (Stands whole) _ _
    (record { inside = omega (arith, size, ap length there, length-drop at whole); payload_is = ap (λ xs. take h.length xs) payload })
    (later h)

placed : (whole : List ℕ) (bytes : List ℕ) (prev : Option Header) (skip at : ℕ) → drop at whole ≡ bytes → All (Stands whole) (reading prev skip at bytes).entries
placed whole [] prev skip at there = all-none (Stands whole)
placed whole (g ∷ rest) prev zero at there =
    placed-gate whole prev at g rest (g == 0) (record_at prev rest) (λ h. reading (Some h) (48 + h.length) (at + 1) rest) there refl
    (λ h. placed whole rest (Some h) (48 + h.length) (at + 1) (sym (drop-drop 1 at whole) ∙ ap (λ xs. drop 1 xs) there))
placed whole (b ∷ rest) prev (suc n) at there =
    placed whole rest prev n (at + 1) (sym (drop-drop 1 at whole) ∙ ap (λ xs. drop 1 xs) there)

-- so do all that are committed
committed-placed : (bytes : List ℕ) → All (Stands bytes) (committed bytes).entries
committed-placed bytes = by_length (nat_le (length bytes) 1)
  where
    by_length : (t : Bool) → All (Stands bytes) (if t then record { entries = []; gate = 0; last = None; framed = true } else reading None 0 0 bytes).entries
    by_length true = all-none (Stands bytes)
    by_length false = placed bytes bytes None 0 0 refl

payloads-there : (bytes : List ℕ) (es : List Entry) → All (Stands bytes) es → map (payload_at bytes) (records_of es) ≡ map (λ e. e.payload) es
payloads-there bytes [] all = refl
payloads-there bytes (e ∷ es) all =
    let first : Stands bytes e = all 0 e (omega arith) in
    ap (λ p. p ∷ map (payload_at bytes) (records_of es)) (sym first.payload_is)
    ∙ ap (λ ps. e.payload ∷ ps) (payloads-there bytes es (λ k d le. all (suc k) d (omega (arith, le))))

pub records-placed : (bytes : List ℕ) → ArePlaced bytes (records_of (committed bytes).entries)
records-placed bytes =
    let all : All (Stands bytes) (committed bytes).entries = committed-placed bytes in
    record {
      inside = All-map (IsPlaced bytes) (λ e. e.entry) (committed bytes).entries (λ k d le. (all k d le).inside);
      payloads = payloads-there bytes (committed bytes).entries all;
    }

-- and those of a log
pub log-placed : (bytes : List ℕ) (log : LogView) → IsLogOf (committed bytes) log → ArePlaced bytes log.records
log-placed bytes log is =
    let P : List Record → Type 0 = λ rs. ArePlaced bytes rs in
    subst P (sym is.records) (records-placed bytes)
