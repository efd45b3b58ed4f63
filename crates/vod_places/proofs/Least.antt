-- The least of a list, one place more at a time.
use Rattle.std.proofs.Common.{◌≡◌, ℕ, ◌≤◌, min, Option, None, Some, List, [], ◌∷◌, All, refl, arith, inl, inr}
use Rattle.std.specs.List.{Contains}
use Rattle.std.proofs.lemmas.Bool.{cases_lt}
use Rattle.std.proofs.lemmas.List.Elements.{All-cons, All-nil, Contains-append_right}
use Rattle.vod_places.specs.Places.{sooner, least, IsLeast}

first : (p : ℕ) (ps : List ℕ) → Contains (p ∷ ps) p
first p ps = (0, omega arith, refl)

alone : (p : ℕ) (ps : List ℕ) → ps ≡ [] → All (λ q. p ≤ q) ps
alone p [] e = All-nil (λ q. p ≤ q)
alone p (x ∷ xs) e = absurd (let h : x ∷ xs ≡ [] = e in cc)

lower : (p q : ℕ) (ps : List ℕ) → p ≤ q → All (λ r. q ≤ r) ps → All (λ r. p ≤ r) ps
lower p q ps h all k d lt = let e = all k d lt in omega arith

chosen : (p q m : ℕ) (ps : List ℕ) → m ≡ min p q → IsLeast ps (Some q) → IsLeast (p ∷ ps) (Some m)
chosen p q m ps e (has, all) = elim (cases_lt p q) [
  | inl lt ↦ (
      let is : m ≡ p = omega arith in
      rw is (first p ps, All-cons (λ r. p ≤ r) p ps (omega arith) (lower p q ps (omega arith) all)))
  | inr ge ↦ (
      let is : m ≡ q = omega arith in
      rw is (Contains-append_right (p ∷ []) ps q has, All-cons (λ r. q ≤ r) p ps (omega arith) all))
]

step : (p : ℕ) (ps : List ℕ) (o : Option ℕ) → IsLeast ps o → IsLeast (p ∷ ps) (sooner (Some p) o)
step p ps None e = (first p ps, All-cons (λ q. p ≤ q) p ps (omega arith) (alone p ps e))
step p ps (Some q) h = chosen p q (min p q) ps refl h

pub least_is : (ps : List ℕ) → IsLeast ps (least ps)
least_is [] = refl
least_is (p ∷ ps) = step p ps (least ps) (least_is ps)
