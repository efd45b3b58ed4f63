-- Logs that hold a head and batches, and one record more.
use Rattle.std.proofs.Common.{◌≡◌, ℕ, zero, suc, ◌≤◌, ◌+◌, ◌*◌, arith, List, [], ◌∷◌, ◌++◌, length, take, drop, map, refl, sym, ap, ◌∙◌, subst, All, length-append}
use Rattle.std.specs.Prelude.{Bool, true, false, ◌==◌, nat_le, Option, None, Some, if◌then◌else◌}
use Rattle.std.proofs.lemmas.List.{map-append, drop-drop}
use Rattle.vod_thin_design.specs.declared.thin.Vector.{Vector}
use Rattle.vod_thin_design.specs.Netlist.{Netlist}
use Rattle.vod_log.specs.declared.header.Header.{Header}
use Rattle.vod_log.specs.Format.{Entry, Reading, record_at, gate_read, reading, committed, entry_of}
use Rattle.vod_log.specs.Tail.{frame_header, appended}
use Rattle.vod_thin_code.specs.Bytes.{batch_bytes, head_bytes, record_bytes, IsInForm}
use Rattle.vod_thin_code.specs.Held.{counts, head_header, batch_header, IsBatch, AreBatches, IsHeld}
use Rattle.vod_thin_store.specs.Stored.{first_batches, payloads_of}
use Rattle.vod_thin_store.proofs.Frames.{FrameLaws, Fits, header-of}

gate-last : (h : Header) (at : ℕ) (rest : List ℕ) (t : Bool) (found : Option Header) (more : Header → Reading) → ((x : Header) → (more x).last ≡ None → ⊥) →
    (gate_read (Some h) at rest t found more).last ≡ None → ⊥
gate-last h at rest true found more later e = cc
gate-last h at rest false None more later e = cc
gate-last h at rest false (Some x) more later e = later x e

-- a reading that goes on behind a record has a last header
has-last : (bytes : List ℕ) (h : Header) (skip at : ℕ) → (reading (Some h) skip at bytes).last ≡ None → ⊥
has-last [] h skip at e = cc
has-last (g ∷ rest) h zero at e =
    gate-last h at rest (g == 0) (record_at (Some h) rest) (λ x. reading (Some x) (48 + x.length) (at + 1) rest) (λ x none. has-last rest x (48 + x.length) (at + 1) none) e
has-last (b ∷ rest) h (suc n) at e = has-last rest h n (at + 1) e

gate-none : (at : ℕ) (rest : List ℕ) (t : Bool) (found : Option Header) (more : Header → Reading) → ((x : Header) → (more x).last ≡ None → ⊥) →
    (gate_read None at rest t found more).last ≡ None → (gate_read None at rest t found more).entries ≡ []
gate-none at rest true found more later e = refl
gate-none at rest false None more later e = refl
gate-none at rest false (Some x) more later e = absurd (later x e)

none-read : (bytes : List ℕ) → (reading None 0 0 bytes).last ≡ None → (reading None 0 0 bytes).entries ≡ []
none-read [] e = refl
none-read (g ∷ rest) e =
    gate-none 0 rest (g == 0) (record_at None rest) (λ x. reading (Some x) (48 + x.length) (0 + 1) rest) (λ x none. has-last rest x (48 + x.length) (0 + 1) none) e

-- a log without a last header has no record
pub no-records : (bytes : List ℕ) → (committed bytes).last ≡ None → (committed bytes).entries ≡ []
no-records bytes e = by_test (nat_le (length bytes) 1) e
  where
    by_test : (b : Bool) → (if b then record { entries = []; gate = 0; last = None; framed = true } else reading None 0 0 bytes).last ≡ None →
        (if b then record { entries = []; gate = 0; last = None; framed = true } else reading None 0 0 bytes).entries ≡ []
    by_test true e = refl
    by_test false e = none-read bytes e

-- a log is held where the same is committed
pub held-same : (d : Netlist) (source : List ℕ) (interval : ℕ) (vs : List Vector) (bytes bytes' : List ℕ) → committed bytes' ≡ committed bytes →
    IsHeld d source interval vs bytes → IsHeld d source interval vs bytes'
held-same d source interval vs bytes bytes' same held = record {
  framed = ap (λ r. r.framed) same ∙ held.framed;
  head = held.head;
  batches = held.batches;
  entries = ap (λ r. r.entries) same ∙ held.entries;
  is_head = held.is_head;
  are_batches = held.are_batches;
}

entry-is : FrameLaws → (at : ℕ) (h : Header) (payload : List ℕ) → Fits h payload →
    entry_of at (frame_header (record_bytes h payload)) (record_bytes h payload) ≡ record { entry = record { at = at; header = h }; payload = payload }
entry-is laws at h payload fits = ap (λ x. entry_of at x (record_bytes h payload)) (header-of laws h payload fits) ∙ laws.entry at h payload fits.long

-- a head in an empty log begins one
pub held-head : FrameLaws → (d : Netlist) (source bytes bytes' : List ℕ) (gate : ℕ) → Fits (head_header source) (head_bytes 4096 source) → (committed bytes).last ≡ None →
    committed bytes' ≡ appended (committed bytes) gate (record_bytes (head_header source) (head_bytes 4096 source)) → IsHeld d source 4096 [] bytes'
held-head laws d source bytes bytes' gate fits empty same = record {
  framed = ap (λ r. r.framed) same;
  head = record { entry = record { at = gate; header = head_header source }; payload = head_bytes 4096 source };
  batches = [];
  entries =
      ap (λ r. r.entries) same ∙ ap (λ es. es ++ entry_of gate (frame_header (record_bytes (head_header source) (head_bytes 4096 source))) (record_bytes (head_header source) (head_bytes 4096 source)) ∷ []) (no-records bytes empty)
      ∙ ap (λ e. e ∷ []) (entry-is laws gate (head_header source) (head_bytes 4096 source) fits);
  is_head = record { bytes = refl; positive = omega arith; most = omega arith };
  are_batches = refl;
}

batches-more : (d : Netlist) (before : List Vector) (es : List Entry) (vs : List Vector) (e : Entry) (batch : List Vector) → AreBatches d before es vs → IsBatch d vs e batch →
    AreBatches d before (es ++ e ∷ []) (vs ++ batch)
batches-more d before [] vs e batch are is =
    let P : List Vector → Type 0 = λ xs. IsBatch d xs e batch in
    (batch, subst P are is, ap (λ xs. xs ++ batch) are)
batches-more d before (x ∷ es) vs e batch are is = (are.0, are.1, batches-more d (before ++ are.0) es vs e batch are.2 is)

-- a batch in a log holds more vectors
pub held-batch : FrameLaws → (d : Netlist) (source : List ℕ) (front batch : List Vector) (bytes bytes' : List ℕ) (gate : ℕ) → IsHeld d source 4096 front bytes →
    Fits (batch_header (length front) batch (counts d (front ++ batch))) (batch_bytes batch) → 1 ≤ length batch → length batch ≤ 64 → All (IsInForm d) batch →
    committed bytes' ≡ appended (committed bytes) gate (record_bytes (batch_header (length front) batch (counts d (front ++ batch))) (batch_bytes batch)) →
    IsHeld d source 4096 (front ++ batch) bytes'
held-batch laws d source front batch bytes bytes' gate held fits some few forms same =
    let h : Header = batch_header (length front) batch (counts d (front ++ batch)) in
    let e : Entry = record { entry = record { at = gate; header = h }; payload = batch_bytes batch } in
    let is : entry_of gate (frame_header (record_bytes h (batch_bytes batch))) (record_bytes h (batch_bytes batch)) ≡ e = entry-is laws gate h (batch_bytes batch) fits in
    record {
      framed = ap (λ r. r.framed) same;
      head = held.head;
      batches = held.batches ++ e ∷ [];
      entries = ap (λ r. r.entries) same ∙ ap (λ x. (committed bytes).entries ++ x ∷ []) is ∙ ap (λ es. es ++ e ∷ []) held.entries;
      is_head = held.is_head;
      are_batches = batches-more d [] held.batches front e batch held.are_batches (record { header = refl; payload = refl; some = some; few = few; forms = forms });
    }

-- the payloads behind the head are those of the batches
payloads-held : (d : Netlist) (source : List ℕ) (vs : List Vector) (bytes : List ℕ) (held : IsHeld d source 4096 vs bytes) → payloads_of bytes ≡ map (λ (e : Entry). e.payload) held.batches
payloads-held d source vs bytes held = ap (λ es. map (λ (e : Entry). e.payload) (drop 1 es)) held.entries

-- a log that holds one batch more has its payload too
pub payloads-more : FrameLaws → (d : Netlist) (source : List ℕ) (front batch : List Vector) (bytes bytes' : List ℕ) (gate : ℕ) → IsHeld d source 4096 front bytes →
    Fits (batch_header (length front) batch (counts d (front ++ batch))) (batch_bytes batch) →
    committed bytes' ≡ appended (committed bytes) gate (record_bytes (batch_header (length front) batch (counts d (front ++ batch))) (batch_bytes batch)) →
    payloads_of bytes' ≡ payloads_of bytes ++ batch_bytes batch ∷ []
payloads-more laws d source front batch bytes bytes' gate held fits same =
    let h : Header = batch_header (length front) batch (counts d (front ++ batch)) in
    let e : Entry = record { entry = record { at = gate; header = h }; payload = batch_bytes batch } in
    let is : entry_of gate (frame_header (record_bytes h (batch_bytes batch))) (record_bytes h (batch_bytes batch)) ≡ e = entry-is laws gate h (batch_bytes batch) fits in
    let entries : (committed bytes').entries ≡ (held.head ∷ held.batches) ++ e ∷ [] = ap (λ r. r.entries) same ∙ ap (λ x. (committed bytes).entries ++ x ∷ []) is ∙ ap (λ es. es ++ e ∷ []) held.entries in
    ap (λ es. map (λ (e : Entry). e.payload) (drop 1 es)) entries ∙ map-append (λ (e : Entry). e.payload) held.batches (e ∷ [])
    ∙ ap (λ ps. ps ++ batch_bytes batch ∷ []) (sym (payloads-held d source front bytes held))

-- batches lead to no fewer vectors
batches-lead : (d : Netlist) (before : List Vector) (es : List Entry) (vs : List Vector) → AreBatches d before es vs → length before ≤ length vs
batches-lead d before [] vs are = omega (arith, ap length are)
batches-lead d before (e ∷ es) vs are = omega (arith, batches-lead d (before ++ are.0) es vs are.2, length-append before are.0)

none-led : (d : Netlist) (es : List Entry) → AreBatches d [] es [] → es ≡ []
none-led d [] are = refl
none-led d (e ∷ es) are = absurd (omega (arith, are.1.some, batches-lead d are.0 es [] are.2))

-- a log of no vectors has no payload behind its head
pub payloads-none : (d : Netlist) (source : List ℕ) (bytes : List ℕ) → IsHeld d source 4096 [] bytes → payloads_of bytes ≡ []
payloads-none d source bytes held = payloads-held d source [] bytes held ∙ ap (λ es. map (λ (e : Entry). e.payload) es) (none-led d held.batches held.are_batches)

-- one batch more of the vectors
first-next : (n : ℕ) (vs : List Vector) → first_batches (suc n) vs ≡ first_batches n vs ++ take 64 (drop (64 * n) vs) ∷ []
first-next zero vs = refl
first-next (suc n) vs =
    let more : drop (64 * n) (drop 64 vs) ≡ drop (64 * suc n) vs = drop-drop (64 * n) 64 vs ∙ ap (λ k. drop k vs) (omega arith) in
    ap (λ bs. take 64 vs ∷ bs) (first-next n (drop 64 vs) ∙ ap (λ us. first_batches n (drop 64 vs) ++ take 64 us ∷ []) more)

pub first-more : (n : ℕ) (vs : List Vector) → first_batches (n + 1) vs ≡ first_batches n vs ++ take 64 (drop (64 * n) vs) ∷ []
first-more n vs = (let next : n + 1 ≡ suc n = omega arith in ap (λ m. first_batches m vs) next ∙ first-next n vs)
