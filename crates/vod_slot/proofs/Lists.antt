-- What holds of all of a list, and of all pairs of it, in parts of it.
use Rattle.std.proofs.Common.{◌≡◌, ℕ, zero, suc, ◌<◌, List, [], ◌∷◌, ◌++◌, length, flat_map, get_or, arith, refl, subst, ⊎_elim, All, AllPairs, Some, slice_get}
use Rattle.std.proofs.lemmas.Bool.{cases_lt}
use Rattle.std.proofs.lemmas.List.{get_or_past}
use Rattle.std.proofs.lemmas.List.Elements.{All-head, All-tail, All-cons, All-weaker}
use Rattle.std.proofs.lemmas.List.Kept.{AllPairs-cons}
use Rattle.std.proofs.lemmas.Option.{same_Some}

pub all_none : {A : Type 0} (P : A → Type 0) → All P []
all_none P = λ i d l. absurd (omega arith)

pub all_one : {A : Type 0} (P : A → Type 0) (x : A) → P x → All P (x ∷ [])
all_one P x h = All-cons P x [] h (all_none P)

pub all_front : {A : Type 0} (P : A → Type 0) (xs ys : List A) → All P (xs ++ ys) → All P xs
all_front P [] ys h = all_none P
all_front P (x ∷ xs) ys h = All-cons P x xs (All-head P x (xs ++ ys) h) (all_front P xs ys (All-tail P x (xs ++ ys) h))

pub all_back : {A : Type 0} (P : A → Type 0) (xs ys : List A) → All P (xs ++ ys) → All P ys
all_back P [] ys h = h
all_back P (x ∷ xs) ys h = all_back P xs ys (All-tail P x (xs ++ ys) h)

pub all_at : {A : Type 0} (P : A → Type 0) (xs : List A) (k : ℕ) (x : A) → All P xs → slice_get xs k ≡ Some x → P x
all_at P [] k x h at = absurd (cc)
all_at P (y ∷ xs) zero x h at = subst P (same_Some y x at) (All-head P y xs h)
all_at P (y ∷ xs) (suc k) x h at = all_at P xs k x (All-tail P y xs h) at

-- what a list of lists has at a place
pub all_in : {A : Type 0} (P : A → Type 0) (lists : List (List A)) (k : ℕ) → All (All P) lists → All P (get_or lists k [])
all_in P [] k h = all_none P
all_in P (xs ∷ lists) zero h = All-head (All P) xs lists h
all_in P (xs ∷ lists) (suc k) h = all_in P lists k (All-tail (All P) xs lists h)

-- what stands at each place of a list whose elements are all the default
pub default_at : {A : Type 0} (d : A) (xs : List A) → All (λ x. x ≡ d) xs → (k : ℕ) → get_or xs k d ≡ d
default_at d xs all k = ⊎_elim (λ lt. all k d lt) (λ ge. get_or_past xs k d ge) (cases_lt k (length xs))

pub pairs_head : {A : Type 0} (R : A → A → Type 0) (x : A) (xs : List A) → AllPairs R (x ∷ xs) → All (R x) xs
pairs_head R x xs h = λ i d l. h 0 (suc i) d (omega arith) (omega arith)

pub pairs_tail : {A : Type 0} (R : A → A → Type 0) (x : A) (xs : List A) → AllPairs R (x ∷ xs) → AllPairs R xs
pairs_tail R x xs h = λ i j d lt l. h (suc i) (suc j) d (omega arith) (omega arith)

pub pairs_none : {A : Type 0} (R : A → A → Type 0) → AllPairs R []
pairs_none R = λ i j d lt l. absurd (omega arith)

pub pairs_front : {A : Type 0} (R : A → A → Type 0) (xs ys : List A) → AllPairs R (xs ++ ys) → AllPairs R xs
pairs_front R [] ys h = pairs_none R
pairs_front R (x ∷ xs) ys h = AllPairs-cons R x xs (all_front (R x) xs ys (pairs_head R x (xs ++ ys) h)) (pairs_front R xs ys (pairs_tail R x (xs ++ ys) h))

pub pairs_back : {A : Type 0} (R : A → A → Type 0) (xs ys : List A) → AllPairs R (xs ++ ys) → AllPairs R ys
pairs_back R [] ys h = h
pairs_back R (x ∷ xs) ys h = pairs_back R xs ys (pairs_tail R x (xs ++ ys) h)

pub pairs_across : {A : Type 0} (R : A → A → Type 0) (xs ys : List A) → AllPairs R (xs ++ ys) → All (λ x. All (R x) ys) xs
pairs_across R [] ys h = all_none (λ x. All (R x) ys)
pairs_across R (x ∷ xs) ys h = All-cons (λ z. All (R z) ys) x xs (all_back (R x) xs ys (pairs_head R x (xs ++ ys) h)) (pairs_across R xs ys (pairs_tail R x (xs ++ ys) h))

-- the same where each item gives a part
pub all_of : {A B : Type 0} (P : B → Type 0) (f : A → List B) (xs : List A) (k : ℕ) (x : A) → All P (flat_map f xs) → slice_get xs k ≡ Some x → All P (f x)
all_of P f [] k x h at = absurd (cc)
all_of P f (y ∷ xs) zero x h at = subst (λ z. All P (f z)) (same_Some y x at) (all_front P (f y) (flat_map f xs) h)
all_of P f (y ∷ xs) (suc k) x h at = all_of P f xs k x (all_back P (f y) (flat_map f xs) h) at

pub pairs_of : {A B : Type 0} (R : B → B → Type 0) (f : A → List B) (xs : List A) (k : ℕ) (x : A) → AllPairs R (flat_map f xs) → slice_get xs k ≡ Some x → AllPairs R (f x)
pairs_of R f [] k x h at = absurd (cc)
pairs_of R f (y ∷ xs) zero x h at = subst (λ z. AllPairs R (f z)) (same_Some y x at) (pairs_front R (f y) (flat_map f xs) h)
pairs_of R f (y ∷ xs) (suc k) x h at = pairs_of R f xs k x (pairs_back R (f y) (flat_map f xs) h) at

pub across_of : {A B : Type 0} (R : B → B → Type 0) (f : A → List B) (xs : List A) (j k : ℕ) (x y : A) → AllPairs R (flat_map f xs) → slice_get xs j ≡ Some x → slice_get xs k ≡ Some y → j < k → All (λ p. All (R p) (f y)) (f x)
across_of R f [] j k x y h at at' lt = absurd (cc)
across_of R f (z ∷ xs) j zero x y h at at' lt = absurd (omega arith)
across_of R f (z ∷ xs) zero (suc k) x y h at at' lt =
    subst (λ w. All (λ p. All (R p) (f y)) (f w)) (same_Some z x at)
    (All-weaker (λ p. All (R p) (flat_map f xs)) (λ p. All (R p) (f y)) (λ p each. all_of (R p) f xs k y each at') (f z) (pairs_across R (f z) (flat_map f xs) h))
across_of R f (z ∷ xs) (suc j) (suc k) x y h at at' lt = across_of R f xs j k x y (pairs_back R (f z) (flat_map f xs) h) at at' (omega arith)

pub all_from_places : {A : Type 0} (P : A → Type 0) (xs : List A) → ((k : ℕ) (x : A) → slice_get xs k ≡ Some x → P x) → All P xs
all_from_places P [] h = all_none P
all_from_places P (x ∷ xs) h = All-cons P x xs (h 0 x refl) (all_from_places P xs (λ k y at. h (suc k) y at))
