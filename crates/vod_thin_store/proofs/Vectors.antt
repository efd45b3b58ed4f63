-- Fronts of lawful vectors: their times, and since when every input is known.
use Rattle.std.proofs.Common.{◌≡◌, ℕ, zero, suc, ◌<◌, ◌≤◌, ◌+◌, ◌-◌, ◌^◌, arith, List, [], ◌∷◌, ◌++◌, length, get_or, refl, sym, ap, subst, All, length-append}
use Rattle.std.specs.Prelude.{Bool, true, false, None, Some, if◌then◌else◌, nat_le, slice_get}
use Rattle.std.proofs.lemmas.Bool.Decides.{nat_tests}
use Rattle.std.proofs.lemmas.List.{map-append}
use Rattle.std.proofs.lemmas.List.Elements.{All-nil, All-cons, All-head, All-tail}
use Rattle.std.proofs.Math.ListN.{get_or-append}
use Rattle.std.specs.List.Sorted.{IsStrictlyIncreasing}
use Rattle.vod_thin_design.specs.declared.thin.Move.{Move}
use Rattle.vod_thin_design.specs.declared.thin.Vector.{Vector}
use Rattle.vod_thin_design.specs.Netlist.{Netlist}
use Rattle.vod_thin_design.specs.Vectors.{IsVector, IsLawful, AreUnmixed, assigned, gives_all, times, known_since_after, last_time, last_time_after}
use Rattle.vod_thin_code.specs.Bytes.{IsInForm}
use Rattle.vod_thin_store.specs.Stored.{known_by}

-- each vector is later than the one before it, and the first than a time
abbrev pub Rises : ℕ → List Vector → Type 0
Rises t [] = Unit {0}
Rises t (v ∷ vs) = (t < v.time) × Rises v.time vs

rises-behind : (v : Vector) (vs : List Vector) → IsStrictlyIncreasing (times (v ∷ vs)) → Rises v.time vs
rises-behind v [] up = tt
rises-behind v (w ∷ vs) up = (
  up 0 (omega arith),
  rises-behind w vs (λ k lt.
      let P : ℕ → Type 0 = λ n. get_or (times (w ∷ vs)) k 0 < get_or (times (v ∷ w ∷ vs)) n 0 in
      let next : suc k + 1 ≡ suc (k + 1) = omega arith in
      subst P next (up (suc k) (omega arith))),
)

pub lawful-rises : (d : Netlist) (vs : List Vector) → IsLawful d vs → Rises 0 vs
lawful-rises d [] h = tt
lawful-rises d (v ∷ vs) h = (omega (arith, (h.within 0 0 (omega arith)).0), rises-behind v vs h.rising)

rises-sooner : (t u : ℕ) (vs : List Vector) → t ≤ u → Rises u vs → Rises t vs
rises-sooner t u [] le up = tt
rises-sooner t u (v ∷ vs) le up = (omega (arith, up.0), up.1)

last-least : (t : ℕ) (vs : List Vector) → Rises t vs → t ≤ last_time_after t vs
last-least t [] up = omega arith
last-least t (v ∷ vs) up = omega (arith, up.0, last-least v.time vs up.1)

-- more vectors have a later last time
last-later : (t : ℕ) (front : List Vector) (v : Vector) (vs : List Vector) → Rises t (front ++ v ∷ vs) → last_time_after t front < last_time_after t (front ++ v ∷ vs)
last-later t [] v vs up = omega (arith, up.0, last-least v.time vs up.1)
last-later t (w ∷ front) v vs up = last-later w.time front v vs up.1

-- the last time is that of the vectors behind
last-behind : (t : ℕ) (front : List Vector) (v : Vector) (vs : List Vector) → last_time_after t (front ++ v ∷ vs) ≡ last_time (v ∷ vs)
last-behind t [] v vs = refl
last-behind t (w ∷ front) v vs = last-behind w.time front v vs

pub last-of : (front batch : List Vector) → 1 ≤ length batch → last_time (front ++ batch) ≡ last_time batch
last-of front [] some = absurd (omega arith)
last-of front (v ∷ vs) some = last-behind 0 front v vs

pub last-more : (front batch : List Vector) → 1 ≤ length batch → Rises 0 (front ++ batch) → last_time front < last_time (front ++ batch)
last-more front [] some up = absurd (omega arith)
last-more front (v ∷ vs) some up = last-later 0 front v vs up

last-from : (t : ℕ) (vs : List Vector) (k : ℕ) (v : Vector) → slice_get vs k ≡ Some v → k + 1 ≡ length vs → v.time ≡ last_time_after t vs
last-from t [] k v is at = absurd (omega arith)
last-from t (w ∷ []) zero v is at = (let same : v ≡ w = cc in ap (λ x. x.time) same)
last-from t (w ∷ []) (suc k) v is at = absurd (omega arith)
last-from t (w ∷ x ∷ vs) zero v is at = absurd (omega arith)
last-from t (w ∷ x ∷ vs) (suc k) v is at = last-from w.time (x ∷ vs) k v is (omega arith)

pub last-at : (vs : List Vector) (v : Vector) → slice_get vs (length vs - 1) ≡ Some v → v.time ≡ last_time vs
last-at [] v is = absurd (let none : None ≡ Some v = is in cc)
last-at (w ∷ vs) v is = last-from 0 (w ∷ vs) (length (w ∷ vs) - 1) v is (omega arith)

pub last-within : (t : ℕ) (vs : List Vector) → t < 2 ^ 63 → All (λ t. (1 ≤ t) × (t < 2 ^ 63)) (times vs) → last_time_after t vs < 2 ^ 63
last-within t [] lt all = lt
last-within t (v ∷ vs) lt all =
    last-within v.time vs (All-head (λ t. (1 ≤ t) × (t < 2 ^ 63)) v.time (times vs) all).1 (All-tail (λ t. (1 ≤ t) × (t < 2 ^ 63)) v.time (times vs) all)

-- before the last time is reached, nothing is known
known-later : (d : Netlist) (given : List Move) (t : ℕ) (vs : List Vector) → Rises t vs → known_by (known_since_after d given vs) t ≡ None
known-later d given t [] up = refl
known-later d given t (v ∷ vs) up =
    by_test (gives_all d (given ++ v.moves)) (known-later d (given ++ v.moves) t vs (rises-sooner t v.time vs (omega (arith, up.0)) up.1))
  where
    by_test : (b : Bool) → known_by (known_since_after d (given ++ v.moves) vs) t ≡ None → known_by (if b then Some v.time else known_since_after d (given ++ v.moves) vs) t ≡ None
    by_test true more = (let late : nat_le v.time t ≡ false = grind (arith, nat_tests, up.0) in ap (λ b. if b then Some v.time else None) late)
    by_test false more = more

-- since when a front of vectors knows every input is what the whole tells, up to its last time
pub known-front : (d : Netlist) (given : List Move) (t : ℕ) (front vs : List Vector) → Rises t (front ++ vs) →
    known_since_after d given front ≡ known_by (known_since_after d given (front ++ vs)) (last_time_after t front)
known-front d given t [] vs up = sym (known-later d given t vs up)
known-front d given t (v ∷ front) vs up = by_test (gives_all d (given ++ v.moves)) (known-front d (given ++ v.moves) v.time front vs up.1)
  where
    rises-front : (t : ℕ) (front : List Vector) → Rises t (front ++ vs) → Rises t front
    rises-front t [] up = tt
    rises-front t (w ∷ front) up = (up.0, rises-front w.time front up.1)

    by_test : (b : Bool) → known_since_after d (given ++ v.moves) front ≡ known_by (known_since_after d (given ++ v.moves) (front ++ vs)) (last_time_after v.time front)
        → (if b then Some v.time else known_since_after d (given ++ v.moves) front)
        ≡ known_by (if b then Some v.time else known_since_after d (given ++ v.moves) (front ++ vs)) (last_time_after v.time front)
    by_test true more =
        (let low : v.time ≤ last_time_after v.time front = last-least v.time front (rises-front v.time front up.1) in
        let early : nat_le v.time (last_time_after v.time front) ≡ true = grind (arith, nat_tests) in
        sym (ap (λ b. if b then Some v.time else None) early))
    by_test false more = more

pub All-front : {X : Type 0} (P : X → Type 0) (xs ys : List X) → All P (xs ++ ys) → All P xs
All-front P [] ys h = All-nil P
All-front P (x ∷ xs) ys h = All-cons P x xs (All-head P x (xs ++ ys) h) (All-front P xs ys (All-tail P x (xs ++ ys) h))

pub All-back : {X : Type 0} (P : X → Type 0) (xs ys : List X) → All P (xs ++ ys) → All P ys
All-back P [] ys h = h
All-back P (x ∷ xs) ys h = All-back P xs ys (All-tail P x (xs ++ ys) h)

unmixed-front : (d : Netlist) (before : List Move) (vs ws : List Vector) → AreUnmixed d before (vs ++ ws) → AreUnmixed d before vs
unmixed-front d before [] ws all = tt
unmixed-front d before (v ∷ vs) ws all = (all.0, unmixed-front d (before ++ v.moves) vs ws all.1)

-- a front of lawful vectors is lawful
pub lawful-front : (d : Netlist) (vs ws : List Vector) → IsLawful d (vs ++ ws) → IsLawful d vs
lawful-front d vs ws h = record {
  rising = λ k lt.
      let size = length-append (times vs) (times ws) in
      let step : get_or (times vs ++ times ws) k 0 < get_or (times vs ++ times ws) (k + 1) 0 = all k (omega arith) in
      let here : get_or (times vs ++ times ws) k 0 ≡ get_or (times vs) k 0 = get_or-append (times vs) (times ws) 0 k (omega arith) in
      let next : get_or (times vs ++ times ws) (k + 1) 0 ≡ get_or (times vs) (k + 1) 0 = get_or-append (times vs) (times ws) 0 (k + 1) lt in
      omega arith;
  within = All-front (λ t. (1 ≤ t) × (t < 2 ^ 63)) (times vs) (times ws) (subst (All (λ t. (1 ≤ t) × (t < 2 ^ 63))) times_of h.within);
  forms = All-front (IsVector d) vs ws h.forms;
  first = λ v rest e. h.first v (rest ++ ws) (ap (λ xs. xs ++ ws) e);
  unmixed = unmixed-front d [] vs ws h.unmixed;
}
  where
    times_of : times (vs ++ ws) ≡ times vs ++ times ws
    times_of = map-append (λ (v : Vector). v.time) vs ws

    all : IsStrictlyIncreasing (times vs ++ times ws)
    all = subst IsStrictlyIncreasing times_of h.rising

-- lawful vectors whose assignments rise are in form
pub in-form : (d : Netlist) (vs : List Vector) → All (λ t. (1 ≤ t) × (t < 2 ^ 63)) (times vs) → All (IsVector d) vs → All (λ v. IsStrictlyIncreasing (assigned v.moves)) vs → All (IsInForm d) vs
in-form d [] times_are forms rise = All-nil (IsInForm d)
in-form d (v ∷ vs) times_are forms rise =
    let time : (1 ≤ v.time) × (v.time < 2 ^ 63) = All-head (λ t. (1 ≤ t) × (t < 2 ^ 63)) v.time (times vs) times_are in
    All-cons (IsInForm d) v vs
    (record { vector = All-head (IsVector d) v vs forms; time = omega (arith, time.1); rises = All-head (λ v. IsStrictlyIncreasing (assigned v.moves)) v vs rise })
    (in-form d vs (All-tail (λ t. (1 ≤ t) × (t < 2 ^ 63)) v.time (times vs) times_are) (All-tail (IsVector d) v vs forms) (All-tail (λ v. IsStrictlyIncreasing (assigned v.moves)) v vs rise))
