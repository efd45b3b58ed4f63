-- Lawful vectors and one more.
use Rattle.std.proofs.Common.{◌≡◌, ◌⊎◌, ℕ, ◌<◌, ◌+◌, arith, List, [], ◌∷◌, ◌++◌, length, get_or, refl, sym, ap, ◌∙◌, subst, All, inl, inr, length-append}
use Rattle.std.proofs.lemmas.Bool.{cases_lt}
use Rattle.std.proofs.lemmas.List.{map-append, get_or_push}
use Rattle.std.proofs.lemmas.List.Elements.{All-push, All-nil, All-cons, All-head, All-tail}
use Rattle.std.proofs.lemmas.List.Kept.{AllPairs-from_increasing}
use Rattle.std.proofs.Math.ListN.{get_or-append}
use Rattle.std.specs.List.Sorted.{IsStrictlyIncreasing}
use Rattle.vod_design.specs.declared.vector.Vector.{Vector}
use Rattle.vod_design.specs.Lawful.{Port, IsInForm, MayOpen, IsUnmixed, IsLawful, IsNext, times}

rising_push : (xs : List ℕ) (y : ℕ) → IsStrictlyIncreasing xs → All (λ t. t < y) xs → IsStrictlyIncreasing (xs ++ y ∷ [])
rising_push xs y rise low k lt =
    let size = length-append xs (y ∷ []) in
    let inside : k < length xs = omega arith in
    let here : get_or (xs ++ y ∷ []) k 0 ≡ get_or xs k 0 = get_or-append xs (y ∷ []) 0 k inside in
    elim (cases_lt (k + 1) (length xs)) [
      | inl more ↦ rw (here, get_or-append xs (y ∷ []) 0 (k + 1) more) (rise k more)
      | inr end ↦ (
          let at : length xs ≡ k + 1 = omega arith in
          let next : get_or (xs ++ y ∷ []) (k + 1) 0 ≡ y = get_or_push xs y 0 (k + 1) at in
          let below : get_or xs k 0 < y = low k 0 inside in
          omega arith)
    ]

rising_front : (xs : List ℕ) (y : ℕ) → IsStrictlyIncreasing (xs ++ y ∷ []) → IsStrictlyIncreasing xs
rising_front xs y rise k lt =
    let size = length-append xs (y ∷ []) in
    let step : get_or (xs ++ y ∷ []) k 0 < get_or (xs ++ y ∷ []) (k + 1) 0 = rise k (omega arith) in
    let here : get_or (xs ++ y ∷ []) k 0 ≡ get_or xs k 0 = get_or-append xs (y ∷ []) 0 k (omega arith) in
    let next : get_or (xs ++ y ∷ []) (k + 1) 0 ≡ get_or xs (k + 1) 0 = get_or-append xs (y ∷ []) 0 (k + 1) lt in
    omega arith

rising_last : (xs : List ℕ) (y : ℕ) → IsStrictlyIncreasing (xs ++ y ∷ []) → All (λ t. t < y) xs
rising_last xs y rise k d lt =
    let size = length-append xs (y ∷ []) in
    let apart : get_or (xs ++ y ∷ []) k d < get_or (xs ++ y ∷ []) (length xs) d = AllPairs-from_increasing (xs ++ y ∷ []) rise k (length xs) d lt (omega arith) in
    let here : get_or (xs ++ y ∷ []) k d ≡ get_or xs k d = get_or-append xs (y ∷ []) d k lt in
    let next : get_or (xs ++ y ∷ []) (length xs) d ≡ y = get_or_push xs y d (length xs) refl in
    omega arith

All-front : {X : Type 0} (P : X → Type 0) (xs ys : List X) → All P (xs ++ ys) → All P xs
All-front P [] ys h = All-nil P
All-front P (x ∷ xs) ys h = All-cons P x xs (All-head P x (xs ++ ys) h) (All-front P xs ys (All-tail P x (xs ++ ys) h))

All-last : {X : Type 0} (P : X → Type 0) (xs : List X) (y : X) → All P (xs ++ y ∷ []) → P y
All-last P [] y h = All-head P y [] h
All-last P (x ∷ xs) y h = All-last P xs y (All-tail P x (xs ++ y ∷ []) h)

-- where a list and one more falls apart: at the last, or before it
parted : {X : Type 0} (xs before : List X) (y z : X) (behind : List X) → xs ++ y ∷ [] ≡ before ++ z ∷ behind
    → ((xs ≡ before) × (y ≡ z)) ⊎ ((rest : List X) × (xs ≡ before ++ z ∷ rest))
parted [] [] y z behind e = inl (refl, cc)
parted [] (b ∷ []) y z behind e = absurd cc
parted [] (b ∷ c ∷ before) y z behind e = absurd cc
parted (x ∷ xs) [] y z behind e = inr (xs, cc)
parted (x ∷ xs) (b ∷ before) y z behind e =
    let same : x ≡ b = cc in
    let more : xs ++ y ∷ [] ≡ before ++ z ∷ behind = cc in
    elim (parted xs before y z behind more) [
      | inl p ↦ inl (cc, p.1)
      | inr p ↦ inr (p.0, (let e = p.1 in cc))
    ]

append_one : {X : Type 0} (before : List X) (z : X) (behind : List X) (y : X) → (before ++ z ∷ behind) ++ y ∷ [] ≡ before ++ z ∷ (behind ++ y ∷ [])
append_one [] z behind y = refl
append_one (b ∷ before) z behind y = ap (λ l. b ∷ l) (append_one before z behind y)

times-push : (vs : List Vector) (v : Vector) → times (vs ++ v ∷ []) ≡ times vs ++ v.time ∷ []
times-push vs v = map-append (λ (w : Vector). w.time) vs (v ∷ [])

pub lawful_front : (ports : List Port) (vs : List Vector) (v : Vector) → IsLawful ports (vs ++ v ∷ []) → IsLawful ports vs
lawful_front ports vs v h = record {
  forms = All-front (IsInForm ports) vs (v ∷ []) h.forms;
  rising = rising_front (times vs) v.time (subst IsStrictlyIncreasing (times-push vs v) h.rising);
  opens = λ w rest e. h.opens w (rest ++ v ∷ []) (ap (λ xs. xs ++ v ∷ []) e);
  unmixed = λ before w behind e. h.unmixed before w (behind ++ v ∷ []) (ap (λ xs. xs ++ v ∷ []) e ∙ append_one before w behind v);
}

pub lawful_next : (ports : List Port) (vs : List Vector) (v : Vector) → IsLawful ports (vs ++ v ∷ []) → IsNext ports vs v
lawful_next ports vs v h = record {
  form = All-last (IsInForm ports) vs v h.forms;
  later = rising_last (times vs) v.time (subst IsStrictlyIncreasing (times-push vs v) h.rising);
  opens = λ none. h.opens v [] (ap (λ xs. xs ++ v ∷ []) none);
  unmixed = h.unmixed vs v [] refl;
}

opens_push : (ports : List Port) (vs : List Vector) (v : Vector) → ((w : Vector) (rest : List Vector) → vs ≡ w ∷ rest → MayOpen ports w) → (vs ≡ [] → MayOpen ports v)
    → (w : Vector) (rest : List Vector) → vs ++ v ∷ [] ≡ w ∷ rest → MayOpen ports w
opens_push ports [] v given first w rest e = (let same : v ≡ w = cc in subst (MayOpen ports) same (first refl))
opens_push ports (x ∷ xs) v given first w rest e = (let same : x ≡ w = cc in subst (MayOpen ports) same (given x xs refl))

unmixed_push : (ports : List Port) (vs : List Vector) (v : Vector) → ((before : List Vector) (w : Vector) (behind : List Vector) → vs ≡ before ++ w ∷ behind → IsUnmixed ports before w)
    → IsUnmixed ports vs v → (before : List Vector) (w : Vector) (behind : List Vector) → vs ++ v ∷ [] ≡ before ++ w ∷ behind → IsUnmixed ports before w
unmixed_push ports vs v given last before w behind e =
    elim (parted vs before v w behind e) [
      | inl p ↦ subst (λ u. IsUnmixed ports before u) p.1 (subst (λ b. IsUnmixed ports b v) p.0 last)
      | inr p ↦ given before w p.0 p.1
    ]

pub lawful_push : (ports : List Port) (vs : List Vector) (v : Vector) → IsLawful ports vs → IsNext ports vs v → IsLawful ports (vs ++ v ∷ [])
lawful_push ports vs v h n = record {
  forms = All-push (IsInForm ports) vs v h.forms n.form;
  rising = subst IsStrictlyIncreasing (sym (times-push vs v)) (rising_push (times vs) v.time h.rising n.later);
  opens = opens_push ports vs v h.opens n.opens;
  unmixed = unmixed_push ports vs v h.unmixed n.unmixed;
}
