-- Frames of heads and batches go on behind a log.
use Rattle.std.proofs.Common.{◌≡◌, ℕ, ◌<◌, ◌≤◌, ◌+◌, ◌^◌, arith, List, length, take, refl, sym, ap, subst, ◌∙◌, ◌-◌}
use Rattle.std.specs.Prelude.{Bool, true, false, ◌==◌, ◌||◌, nat_le, nat_lt, Option, None, Some, is_none, IfSome, slice_index, if◌then◌else◌}
use Rattle.std.proofs.lemmas.Bool.Decides.{nat_tests}
use Rattle.vod_thin_design.specs.declared.thin.Vector.{Vector}
use Rattle.vod_log.specs.declared.header.Kind.TheVariants.{Batch}
use Rattle.vod_log.specs.declared.header.Header.{Header}
use Rattle.vod_log.specs.declared.header.Counts.{Counts}
use Rattle.vod_log.specs.Format.{begins_header, entry_of, follows, is_batch, is_fresh, keeps_known, same_known}
use Rattle.vod_log.specs.Tail.{frame_header, Continues}
use Rattle.vod_thin_code.specs.Bytes.{batch_bytes, record_bytes}
use Rattle.vod_thin_code.specs.Held.{head_header, batch_header}
use Rattle.vod_thin_store.specs.Stored.{known_by}

-- what the bytes of a record are to a log
pub record FrameLaws : Type 0 where
  pub begins : (h : Header) (payload : List ℕ) → begins_header (take 48 (record_bytes h payload)) ≡ true
  pub header : (h : Header) (payload : List ℕ) → h.length < 2 ^ 64 → h.before < 2 ^ 64 → h.after < 2 ^ 64 → h.last < 2 ^ 64 → IfSome h.known (λ time. time < 2 ^ 64 - 1) →
      frame_header (record_bytes h payload) ≡ h
  pub long : (h : Header) (payload : List ℕ) → length (record_bytes h payload) ≡ 49 + length payload
  pub closed : (h : Header) (payload : List ℕ) → slice_index (record_bytes h payload) (48 + length payload) ≡ 0
  pub entry : (at : ℕ) (h : Header) (payload : List ℕ) → h.length ≡ length payload → entry_of at h (record_bytes h payload) ≡ record { entry = record { at = at; header = h }; payload = payload }

-- a header and its payload, as a frame can hold them
pub record Fits (h : Header) (payload : List ℕ) : Type 0 where
  pub long : h.length ≡ length payload
  pub length_fits : h.length < 2 ^ 64
  pub before_fits : h.before < 2 ^ 64
  pub after_fits : h.after < 2 ^ 64
  pub last_fits : h.last < 2 ^ 64
  pub known_fits : IfSome h.known (λ time. time < 2 ^ 64 - 1)

pub header-of : FrameLaws → (h : Header) (payload : List ℕ) → Fits h payload → frame_header (record_bytes h payload) ≡ h
header-of laws h payload fits = laws.header h payload fits.length_fits fits.before_fits fits.after_fits fits.last_fits fits.known_fits

pub frame-continues : FrameLaws → (last : Option Header) (h : Header) (payload : List ℕ) → Fits h payload → follows last h ≡ true → Continues last (record_bytes h payload)
frame-continues laws last h payload fits right =
    let same : frame_header (record_bytes h payload) ≡ h = header-of laws h payload fits in
    let size : length payload ≡ (frame_header (record_bytes h payload)).length = sym fits.long ∙ ap (λ x. x.length) (sym same) in
    record {
      begins = laws.begins h payload;
      right = ap (λ x. follows last x) same ∙ right;
      long = laws.long h payload ∙ ap (λ n. 49 + n) size;
      closed = ap (λ n. slice_index (record_bytes h payload) (48 + n)) (sym size) ∙ laws.closed h payload;
    }

kept : (p h : Header) (a b : Option ℕ) → p.known ≡ a → h.known ≡ b → (if is_none a then is_fresh b p.last h.last else same_known b a) ≡ true → keeps_known p h ≡ true
kept p h a b before after test = rw (before, after) test

keeps : (k : Option ℕ) (p h : Header) → p.known ≡ known_by k p.last → h.known ≡ known_by k h.last → p.last < h.last → keeps_known p h ≡ true
keeps None p h before after later = kept p h None None before after refl
keeps (Some t) p h before after later = by_test (nat_le t p.last) (nat_le t h.last) refl refl before after
  where
    by_test : (x y : Bool) → nat_le t p.last ≡ x → nat_le t h.last ≡ y → p.known ≡ (if x then Some t else None) → h.known ≡ (if y then Some t else None) → keeps_known p h ≡ true
    by_test true true low high before after = kept p h (Some t) (Some t) before after (grind (arith, nat_tests))
    by_test true false low high before after = absurd (let a : t ≤ p.last = grind (arith, nat_tests) in let b : h.last < t = grind (arith, nat_tests) in omega arith)
    by_test false true low high before after =
        (let a : nat_lt p.last t ≡ true = grind (arith, nat_tests) in kept p h None (Some t) before after (rw (a, high) refl))
    by_test false false low high before after = kept p h None None before after refl

or-true : (x y : Bool) → x ≡ true → (x || y) ≡ true
or-true true y e = refl
or-true false y e = absurd cc

-- a batch may stand behind a header: it holds more vectors, to a later time
pub batch-follows : (k : Option ℕ) (p h : Header) → h.kind ≡ Batch → h.before ≡ p.after → p.after < h.after → h.after ≤ p.after + 64 → h.after ≤ 4294967295 → p.last < h.last → h.last < 2 ^ 63 →
    p.known ≡ known_by k p.last → h.known ≡ known_by k h.last → h.length ≤ 787200 → follows (Some p) h ≡ true
batch-follows k p h kind before more few most later within was is short =
    let known : keeps_known p h ≡ true = keeps k p h was is later in
    or-true (is_batch p h) _ (right known)
  where
    right : keeps_known p h ≡ true → is_batch p h ≡ true
    right known = grind (arith, nat_tests)

known-fits : (k : Option ℕ) (last : ℕ) → last < 2 ^ 63 → IfSome (known_by k last) (λ time. time < 2 ^ 64 - 1)
known-fits None last lt = tt
known-fits (Some t) last lt = by_test (nat_le t last) refl
  where
    by_test : (b : Bool) → nat_le t last ≡ b → IfSome (if b then Some t else None) (λ time. time < 2 ^ 64 - 1)
    by_test true e = (let low : t ≤ last = grind (arith, nat_tests) in omega arith)
    by_test false e = tt

-- the header of a batch, behind so many vectors
pub batch-fits : (k : Option ℕ) (before : ℕ) (batch : List Vector) (after : Counts) → before ≤ after.vectors → after.vectors < 4096 → after.last < 2 ^ 63 → after.known ≡ known_by k after.last →
    length (batch_bytes batch) ≤ 787200 → Fits (batch_header before batch after) (batch_bytes batch)
batch-fits k before batch after more few within known short = record {
  long = refl;
  length_fits = omega arith;
  before_fits = omega arith;
  after_fits = omega arith;
  last_fits = omega arith;
  known_fits = subst (λ (known : Option ℕ). IfSome known (λ time. time < 2 ^ 64 - 1)) (sym known) (known-fits k after.last within);
}

pub head-fits : (source : List ℕ) → length source ≤ 2 ^ 20 → (payload : List ℕ) → length payload ≡ 8 + length source → Fits (head_header source) payload
head-fits source short payload long = record {
  long = sym long;
  length_fits = omega arith;
  before_fits = omega arith;
  after_fits = omega arith;
  last_fits = omega arith;
  known_fits = tt;
}

pub head-follows : (source : List ℕ) → length source ≤ 2 ^ 20 → follows None (head_header source) ≡ true
head-follows source short = grind (arith, nat_tests)

-- a head stands first
pub head-first : (source : List ℕ) (last : Option Header) → follows last (head_header source) ≡ true → last ≡ None
head-first source None right = refl
head-first source (Some p) right = absurd cc
