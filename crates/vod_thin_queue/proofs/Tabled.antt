-- Lists that a function of the place gives.
use Rattle.std.proofs.Common.{◌≡◌, ◌≢◌, ℕ, ◌+◌, ◌<◌, zero, suc, List, [], ◌∷◌, length, map, set, get_or, replicate, arith, ap, ◌∙◌, sym, subst, ⊎_elim, length-set, get_or-set_same, get_or-set_other}
use Rattle.std.specs.List.{enumerate_from}
use Rattle.std.proofs.lemmas.Bool.{cases_eq}
use Rattle.std.proofs.lemmas.List.{length-map, same_lists, length-replicate, get_or-replicate}
use Rattle.std.proofs.lemmas.List.FromFn.{length-enumerate_from}

-- the function's value at each place of a list
abbrev pub tabled : {A B : Type 0} → (ℕ → B) → List A → List B
tabled f xs = map (λ e. f e.0) (enumerate_from 0 xs)

pub length-tabled : {A B : Type 0} (f : ℕ → B) (xs : List A) → length (tabled f xs) ≡ length xs
length-tabled f xs = length-map (enumerate_from 0 xs) (λ e. f e.0) ∙ length-enumerate_from 0 xs

get_or-tabled_from : {A B : Type 0} (f : ℕ → B) (n : ℕ) (xs : List A) (k : ℕ) (d : B) → k < length xs → get_or (map (λ e. f e.0) (enumerate_from n xs)) k d ≡ f (n + k)
get_or-tabled_from f n [] k d h = absurd (omega arith)
get_or-tabled_from f n (x ∷ xs) zero d h = let e : n ≡ n + 0 = omega arith in ap f e
get_or-tabled_from f n (x ∷ xs) (suc k) d h = let e : n + 1 + k ≡ n + suc k = omega arith in get_or-tabled_from f (n + 1) xs k d (omega arith) ∙ ap f e

pub get_or-tabled : {A B : Type 0} (f : ℕ → B) (xs : List A) (k : ℕ) (d : B) → k < length xs → get_or (tabled f xs) k d ≡ f k
get_or-tabled f xs k d h = let e : 0 + k ≡ k = omega arith in get_or-tabled_from f 0 xs k d h ∙ ap f e

-- a list that has the function's value at each place
pub same_tabled : {A B : Type 0} (f : ℕ → B) (xs : List A) (ys : List B) → length ys ≡ length xs → ((k : ℕ) (d : B) → k < length xs → get_or ys k d ≡ f k) → ys ≡ tabled f xs
same_tabled f xs ys len at = same_lists ys (tabled f xs) (len ∙ sym (length-tabled f xs)) (λ k d h. let l : k < length xs = rw (← len) h in at k d l ∙ sym (get_or-tabled f xs k d l))

pub replicate-tabled : {A B : Type 0} (f : ℕ → B) (xs : List A) (y : B) → ((k : ℕ) → f k ≡ y) → replicate (length xs) y ≡ tabled f xs
replicate-tabled f xs y at = same_tabled f xs (replicate (length xs) y) (length-replicate (length xs) y) (λ k d h. get_or-replicate (length xs) k y d h ∙ sym (at k))

-- one value more is that of the function
pub set-tabled : {A B : Type 0} (f g : ℕ → B) (xs : List A) (i : ℕ) (y : B) → i < length xs → g i ≡ y → ((k : ℕ) → k ≢ i → g k ≡ f k) → set (tabled f xs) i y ≡ tabled g xs
set-tabled f g xs i y h here other =
    same_tabled g xs (set (tabled f xs) i y) (length-set (tabled f xs) i y ∙ length-tabled f xs)
    (λ k d l. ⊎_elim
    (λ same. subst (λ n. get_or (set (tabled f xs) i y) n d ≡ g n) (sym same) (get_or-set_same (tabled f xs) i y d (rw length-tabled h) ∙ sym here))
    (λ apart. get_or-set_other (tabled f xs) i k y d apart ∙ get_or-tabled f xs k d l ∙ sym (other k apart))
    (cases_eq k i))
