-- Counts and places of a list's elements that pass a test.
use Rattle.std.proofs.Common.{◌≡◌, ℕ, ◌+◌, ◌<◌, zero, suc, Bool, true, false, cond, List, [], ◌∷◌, length, take, map, replicate, get_or, arith, count_by, refl, sym, ◌∙◌, ap, Some, add-zero}
use Rattle.std.specs.List.{enumerate_from, filter, slice_get}
use Rattle.std.proofs.lemmas.List.{map-set, take-map, length-map}
use Rattle.std.proofs.lemmas.List.Sums.{sum_by-cons}
use Rattle.vod_thin_queue.specs.Flags.{set_count}

pub map-replicate : {A B : Type 0} (f : A → B) (n : ℕ) (x : A) → map f (replicate n x) ≡ replicate n (f x)
map-replicate f zero x = refl
map-replicate f (suc n) x = ap (λ ys. f x ∷ ys) (map-replicate f n x)

pub count_by-cons : {A : Type 0} (test : A → Bool) (x : A) (xs : List A) → count_by test (x ∷ xs) ≡ cond (test x) 1 0 + count_by test xs
count_by-cons test x xs = sum_by-cons (λ y. cond (test y) 1 0) x xs

-- the count of what passes is that of the results that are true
pub set_count-map : {A : Type 0} (test : A → Bool) (xs : List A) → set_count (map test xs) ≡ count_by test xs
set_count-map test [] = refl
set_count-map test (x ∷ xs) = count_by-cons (λ flag. flag) (test x) (map test xs) ∙ ap (λ n. cond (test x) 1 0 + n) (set_count-map test xs) ∙ sym (count_by-cons test x xs)

-- what `Waiting` keeps beside its values
pub ruleset filled = (map-replicate, set_count-map, map-set, take-map, length-map)

-- the places from n on of the elements that pass
abbrev pub places_from : {A : Type 0} → (A → Bool) → ℕ → List A → List ℕ
places_from test n xs = map (λ e. e.0) (filter (λ e. test e.1) (enumerate_from n xs))

length-kept : {A B : Type 0} (f : A → B) (kept : Bool) (x : A) (xs : List A) → length (map f (cond kept (x ∷ xs) xs)) ≡ cond kept 1 0 + length (map f xs)
length-kept f true x xs = omega arith
length-kept f false x xs = omega arith

pub length-places_from : {A : Type 0} (test : A → Bool) (n : ℕ) (xs : List A) → length (places_from test n xs) ≡ count_by test xs
length-places_from test n [] = refl
length-places_from test n (x ∷ xs) =
    length-kept (λ e. e.0) (test x) (n, x) (filter (λ e. test e.1) (enumerate_from (n + 1) xs)) ∙ ap (λ c. cond (test x) 1 0 + c) (length-places_from test (n + 1) xs) ∙ sym (count_by-cons test x xs)

slice_get-kept : {A B : Type 0} (f : A → B) (kept : Bool) (x : A) (xs : List A) (i : ℕ) → slice_get (map f (cond kept (x ∷ xs) xs)) (cond kept 1 0 + i) ≡ slice_get (map f xs) i
slice_get-kept f true x xs i = let e : 1 + i ≡ suc i = omega arith in rw e refl
slice_get-kept f false x xs i = let e : 0 + i ≡ i = omega arith in rw e refl

slice_get-first : {A B : Type 0} (f : A → B) (kept : Bool) (x : A) (xs : List A) → kept ≡ true → slice_get (map f (cond kept (x ∷ xs) xs)) 0 ≡ Some (f x)
slice_get-first f true x xs h = refl
slice_get-first f false x xs h = cc

-- the place of an element that passes stands behind those of the ones before it that pass
pub slice_get-places_from : {A : Type 0} (test : A → Bool) (n : ℕ) (xs : List A) (i : ℕ) (d : A) → i < length xs → test (get_or xs i d) ≡ true → slice_get (places_from test n xs) (count_by test (take i xs)) ≡ Some (n + i)
slice_get-places_from test n [] i d h t = absurd (omega arith)
slice_get-places_from test n (x ∷ xs) zero d h t =
    slice_get-first (λ e. e.0) (test x) (n, x) (filter (λ e. test e.1) (enumerate_from (n + 1) xs)) t ∙ ap Some (sym (add-zero n))
slice_get-places_from test n (x ∷ xs) (suc i) d h t =
    let e : count_by test (x ∷ take i xs) ≡ cond (test x) 1 0 + count_by test (take i xs) = count_by-cons test x (take i xs) in
    let s : n + 1 + i ≡ n + suc i = omega arith in
    rw e (slice_get-kept (λ e. e.0) (test x) (n, x) (filter (λ e. test e.1) (enumerate_from (n + 1) xs)) (count_by test (take i xs))
    ∙ slice_get-places_from test (n + 1) xs i d (omega arith) t ∙ ap Some s)
