-- A text is cut at a byte in one way, and texts that lack a byte.
use Rattle.std.proofs.Common.{◌≡◌, ℕ, ◌+◌, arith, List, [], ◌∷◌, ◌++◌, length, take, drop, refl, sym, subst, true, false, not, ◌==◌, Bool, Some, None, Option, cond, nat_lt, one-add, position, unwrap_or}
use Rattle.std.proofs.lemmas.Bool.Decides.{nat_tests}
use Rattle.std.proofs.lemmas.List.Sums.{prefix_len-le-length}
use Rattle.std.specs.List.{position_or_len}
use Rattle.vod_thin_script.specs.Pieces.{Lacks, StopsAt}

pub cut_once : (b : ℕ) (xs ys us vs : List ℕ) → Lacks b xs → Lacks b ys → StopsAt b us → StopsAt b vs → xs ++ us ≡ ys ++ vs → (xs ≡ ys) × (us ≡ vs)
cut_once b [] [] us vs lx ly su sv e = (refl, e)
cut_once b [] (y ∷ ys) us vs lx ly su sv e = absurd (ly.0 (subst (StopsAt b) e su))
cut_once b (x ∷ xs) [] us vs lx ly su sv e = absurd (lx.0 (subst (StopsAt b) (sym e) sv))
cut_once b (x ∷ xs) (y ∷ ys) us vs lx ly su sv e =
    let tails : xs ++ us ≡ ys ++ vs = cc in
    let same = cut_once b xs ys us vs lx.1 ly.1 su sv tails in
    let heads : x ≡ y = cc in
    let fronts : xs ≡ ys = same.0 in
    (cc, same.1)

-- a text lacks what its two parts lack
pub Lacks-append : (b : ℕ) (xs ys : List ℕ) → Lacks b xs → Lacks b ys → Lacks b (xs ++ ys)
Lacks-append b [] ys lx ly = ly
Lacks-append b (x ∷ xs) ys lx ly = (lx.0, Lacks-append b xs ys lx.1 ly)

-- what stands before the first such byte lacks it
before_lacks : (b : ℕ) (xs : List ℕ) → Lacks b (take (position_or_len (λ x. x == b) xs) xs)
before_lacks b [] = tt
before_lacks b (x ∷ xs) = by_test (before_lacks b xs) (x == b) refl
  where
    by_test : Lacks b (take (position_or_len (λ c. c == b) xs) xs) → (t : Bool) → (x == b) ≡ t → Lacks b (take (cond (not t) (1 + position_or_len (λ x. x == b) xs) 0) (x ∷ xs))
    by_test rest true e = tt
    by_test rest false e = rw one-add ((λ same. grind (arith, nat_tests)), rest)

place_is : (p : ℕ → Bool) (xs : List ℕ) → unwrap_or (position p xs) (length xs) ≡ position_or_len p xs
place_is p xs =
    let within = prefix_len-le-length (λ x. not (p x)) xs in
    by_test (nat_lt (position_or_len p xs) (length xs)) (λ e. grind (arith, nat_tests))
  where
    by_test : (t : Bool) → (t ≡ false → length xs ≡ position_or_len p xs) → unwrap_or (cond t (Some (position_or_len p xs)) None) (length xs) ≡ position_or_len p xs
    by_test true e = refl
    by_test false e = e refl

pub cut_lacks : (b : ℕ) (xs : List ℕ) (at : Option ℕ) → at ≡ position (λ x. x == b) xs → Lacks b (take (unwrap_or at (length xs)) xs)
cut_lacks b xs at e = rw (e, place_is (λ x. x == b) xs) (before_lacks b xs)

-- and the rest is empty or begins with it
rest_stops : (b : ℕ) (xs : List ℕ) → StopsAt b (drop (position_or_len (λ x. x == b) xs) xs)
rest_stops b [] = tt
rest_stops b (x ∷ xs) = by_test (rest_stops b xs) (x == b) refl
  where
    by_test : StopsAt b (drop (position_or_len (λ c. c == b) xs) xs) → (t : Bool) → (x == b) ≡ t → StopsAt b (drop (cond (not t) (1 + position_or_len (λ x. x == b) xs) 0) (x ∷ xs))
    by_test rest true e = grind (arith, nat_tests)
    by_test rest false e = rw one-add rest

pub cut_stops : (b : ℕ) (xs : List ℕ) (at : Option ℕ) → at ≡ position (λ x. x == b) xs → StopsAt b (drop (unwrap_or at (length xs)) xs)
cut_stops b xs at e = rw (e, place_is (λ x. x == b) xs) (rest_stops b xs)
