-- How far gates stand, and how long records are.
use Rattle.std.proofs.Common.{◌≡◌, ℕ, ◌+◌, ◌*◌, ◌^◌, ◌≤◌, ◌<◌, inl, inr, List, length, refl, ◌∙◌, ap, arith}
use Rattle.std.specs.Prelude.{Bool, true, false, ◌==◌, nat_le, nat_lt, Option, None, Some, if◌then◌else◌}
use Rattle.std.proofs.lemmas.Bool.{or_cases}
use Rattle.std.proofs.lemmas.Bool.Decides.{nat_tests}
use Rattle.vod_log.specs.declared.header.Kind.TheVariants.{Image}
use Rattle.vod_log.specs.Format.{kind_number, same_kind, follows, is_head, is_batch, is_image}
use Rattle.vod_log.specs.Tail.{Continues, IsNear, records_before, frame_header}
use Rattle.vod_log.specs.declared.header.Header.{Header}
use Rattle.vod_log.proofs.Readings.{both-true}

le-true : (a b : ℕ) → nat_le a b ≡ true → a ≤ b
le-true a b e = grind (arith, nat_tests)

lt-true : (a b : ℕ) → nat_lt a b ≡ true → a < b
lt-true a b e = grind (arith, nat_tests)

eq-true : (a b : ℕ) → (a == b) ≡ true → a ≡ b
eq-true a b e = grind (arith, nat_tests)

record HeadFacts (h : Header) : Type 0 where
  kind : kind_number h.kind ≡ 1
  after : h.after ≡ 0
  short : h.length ≤ 1048584

head-facts : (h : Header) → is_head h ≡ true → HeadFacts h
head-facts h e =
    let last = both-true _ _ e in
    let low = both-true _ _ last.0 in
    let known = both-true _ _ low.0 in
    let lasts = both-true _ _ known.0 in
    let afters = both-true _ _ lasts.0 in
    let befores = both-true _ _ afters.0 in
    record { kind = eq-true (kind_number h.kind) 1 befores.0; after = eq-true h.after 0 afters.1; short = le-true h.length 1048584 last.1 }

record BatchFacts (p h : Header) : Type 0 where
  kind : kind_number h.kind ≡ 2
  more : p.after < h.after
  few : h.after ≤ 4294967295
  short : h.length ≤ 787200

batch-facts : (p h : Header) → is_batch p h ≡ true → BatchFacts p h
batch-facts p h e =
    let a8 = both-true _ _ e in
    let a7 = both-true _ _ a8.0 in
    let a6 = both-true _ _ a7.0 in
    let a5 = both-true _ _ a6.0 in
    let a4 = both-true _ _ a5.0 in
    let a3 = both-true _ _ a4.0 in
    let a2 = both-true _ _ a3.0 in
    let a1 = both-true _ _ a2.0 in
    record { kind = eq-true (kind_number h.kind) 2 a1.0; more = lt-true p.after h.after a2.1; few = le-true h.after 4294967295 a4.1; short = le-true h.length 787200 a8.1 }

record ImageFacts (p h : Header) : Type 0 where
  kind : kind_number h.kind ≡ 3
  behind : kind_number p.kind ≡ 2
  same : h.after ≡ p.after
  short : h.length ≤ 1048576

image-facts : (p h : Header) → is_image p h ≡ true → ImageFacts p h
image-facts p h e =
    let a7 = both-true _ _ e in
    let a6 = both-true _ _ a7.0 in
    let a5 = both-true _ _ a6.0 in
    let a4 = both-true _ _ a5.0 in
    let a3 = both-true _ _ a4.0 in
    let a2 = both-true _ _ a3.0 in
    let a1 = both-true _ _ a2.0 in
    record { kind = eq-true (kind_number h.kind) 3 a1.0; behind = eq-true (kind_number p.kind) 2 a1.1; same = eq-true h.after p.after a3.1; short = le-true h.length 1048576 a7.1 }

-- no payload is longer than the greatest head's
pub payload-short : (last : Option Header) (h : Header) → follows last h ≡ true → h.length ≤ 1048584
payload-short None h e = (head-facts h e).short
payload-short (Some p) h e =
    elim (or_cases (is_batch p h) (is_image p h) e) [
      | inl b ↦ let f = batch-facts p h b in omega (arith, f.short)
      | inr i ↦ let f = image-facts p h i in omega (arith, f.short)
    ]

kind-weight : (h : Header) (t : Bool) → same_kind h.kind Image ≡ t → (2 * h.after + (if same_kind h.kind Image then 2 else 1)) ≡ 2 * h.after + (if t then 2 else 1)
kind-weight h t e = ap (λ x. 2 * h.after + (if x then 2 else 1)) e

most-weight : (p : Header) → records_before (Some p) ≤ 2 * p.after + 2
most-weight p = by_kind (same_kind p.kind Image) refl
  where
    by_kind : (t : Bool) → (same_kind p.kind Image) ≡ t → records_before (Some p) ≤ 2 * p.after + 2
    by_kind true e = omega (arith, kind-weight p true e)
    by_kind false e = omega (arith, kind-weight p false e)

weight-of : (h : Header) (k : ℕ) (t : Bool) → kind_number h.kind ≡ k → (k == 3) ≡ t → records_before (Some h) ≡ 2 * h.after + (if t then 2 else 1)
weight-of h k t e same = kind-weight h t (ap (λ x. x == 3) e ∙ same)

-- one record more
pub near-more : (gate : ℕ) (last : Option Header) (h : Header) → IsNear gate last → follows last h ≡ true → IsNear (gate + (49 + h.length)) (Some h)
near-more gate None h is e =
    let f : HeadFacts h = head-facts h e in
    let w : records_before (Some h) ≡ 2 * h.after + 1 = weight-of h 1 false f.kind refl in
    record { near = omega (arith, w, f.short, f.after, is.near); few = omega (arith, w, f.after) }
near-more gate (Some p) h is e =
    let before : records_before (Some p) ≤ 2 * p.after + 2 = most-weight p in
    elim (or_cases (is_batch p h) (is_image p h) e) [
      | inl b ↦
          let f : BatchFacts p h = batch-facts p h b in
          let w : records_before (Some h) ≡ 2 * h.after + 1 = weight-of h 2 false f.kind refl in
          record { near = omega (arith, w, before, f.short, f.more, is.near); few = omega (arith, w, f.few) }
      | inr i ↦
          let f : ImageFacts p h = image-facts p h i in
          let w : records_before (Some h) ≡ 2 * h.after + 2 = weight-of h 3 true f.kind refl in
          let v : records_before (Some p) ≡ 2 * p.after + 1 = weight-of p 2 false f.behind refl in
          record { near = omega (arith, w, v, f.short, f.same, is.near); few = omega (arith, w, v, f.same, is.few) }
    ]

-- a gate and a frame behind it are far from the end of a file's lengths
pub near-short : (gate : ℕ) (last : Option Header) (frame : List ℕ) → IsNear gate last → Continues last frame → gate + 1 + length frame < 2 ^ 63
near-short gate last frame is goes_on =
    let short : (frame_header frame).length ≤ 1048584 = payload-short last (frame_header frame) goes_on.right in
    omega (arith, short, is.near, is.few, goes_on.long)
