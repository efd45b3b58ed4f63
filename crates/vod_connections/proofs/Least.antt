-- The least of two lists.
use Rattle.std.proofs.Common.{◌≡◌, ℕ, ◌+◌, ◌<◌, suc, min, Bool, true, false, cond, Option, None, Some, List, [], ◌∷◌, ◌++◌, length, drop, get_or, flat_map, drop-cons, refl, sym, ◌∙◌, ap, arith}
use Rattle.vod_places.specs.Places.{sooner, least, place_if}

pub sooner_none : (a : Option ℕ) → sooner a None ≡ a
sooner_none None = refl
sooner_none (Some p) = refl

least_three : (p q r : ℕ) → min p (min q r) ≡ min (min p q) r
least_three p q r = omega arith

pub sooner_assoc : (a b c : Option ℕ) → sooner a (sooner b c) ≡ sooner (sooner a b) c
sooner_assoc None b c = refl
sooner_assoc (Some p) None c = refl
sooner_assoc (Some p) (Some q) None = refl
sooner_assoc (Some p) (Some q) (Some r) = ap (λ n. Some n) (least_three p q r)

pub least_append : (ps qs : List ℕ) → least (ps ++ qs) ≡ sooner (least ps) (least qs)
least_append [] qs = refl
least_append (p ∷ ps) qs = ap (sooner (Some p)) (least_append ps qs) ∙ sooner_assoc (Some p) (least ps) (least qs)

pub least_if : (test : Bool) (p : ℕ) → least (place_if test p) ≡ cond test (Some p) None
least_if true p = refl
least_if false p = refl

-- one item more
pub least_step : (a b : Option ℕ) (ps qs : List ℕ) (all : Option ℕ) → b ≡ least ps → sooner a (least (ps ++ qs)) ≡ all → sooner (sooner a b) (least qs) ≡ all
least_step a b ps qs all is h = ap (λ o. sooner (sooner a o) (least qs)) is ∙ sym (sooner_assoc a (least ps) (least qs)) ∙ ap (sooner a) (sym (least_append ps qs)) ∙ h

-- the same where the next item of a list is looked at
next : {A : Type 0} (f : A → List ℕ) (xs : List A) (i : ℕ) (x : A) → i < length xs → x ≡ get_or xs i x → flat_map f (drop i xs) ≡ f x ++ flat_map f (drop (i + 1) xs)
next f xs i x lt is =
    let one : suc i ≡ i + 1 = omega arith in
    ap (flat_map f) (drop-cons xs i x lt) ∙ ap (λ y. f y ++ flat_map f (drop (suc i) xs)) (sym is) ∙ ap (λ j. f x ++ flat_map f (drop j xs)) one

pub each_step : {A : Type 0} (f : A → List ℕ) (xs : List A) (i : ℕ) (x : A) (a b : Option ℕ) (all : Option ℕ) → i < length xs → x ≡ get_or xs i x → b ≡ least (f x)
    → sooner a (least (flat_map f (drop i xs))) ≡ all → sooner (sooner a b) (least (flat_map f (drop (i + 1) xs))) ≡ all
each_step f xs i x a b all lt is found h = least_step a b (f x) (flat_map f (drop (i + 1) xs)) all found (ap (λ ps. sooner a (least ps)) (sym (next f xs i x lt is)) ∙ h)
