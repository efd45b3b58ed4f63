-- Lines of the elements of a list with their numbers, one after another.
use Rattle.std.proofs.Common.{◌≡◌, ℕ, ◌+◌, ◌<◌, List, ◌∷◌, ◌++◌, length, drop, get_or, ap, sym, ◌∙◌, append_assoc, add-one, drop-cons}
use Rattle.std.specs.List.{enumerate_from, flat_map}

-- the next element stands first in what is left
pub enumerate_from-next : {X : Type 0} (n : ℕ) (xs : List X) (x : X) → n < length xs → x ≡ get_or xs n x →
    enumerate_from n (drop n xs) ≡ (n, x) ∷ enumerate_from (n + 1) (drop (n + 1) xs)
enumerate_from-next n xs x within is =
    ap (λ v. enumerate_from n v) (drop-cons xs n x within) ∙ simp (← is, add-one)

-- the lines of one element more
pub lines-next : {X A : Type 0} (f : ℕ × X → List A) (text whole : List A) (n : ℕ) (xs : List X) (x : X) → n < length xs → x ≡ get_or xs n x →
    text ++ flat_map f (enumerate_from n (drop n xs)) ≡ whole →
    (text ++ f (n, x)) ++ flat_map f (enumerate_from (n + 1) (drop (n + 1) xs)) ≡ whole
lines-next f text whole n xs x within is so_far =
    append_assoc text (f (n, x)) _ ∙ sym (ap (λ v. text ++ flat_map f v) (enumerate_from-next n xs x within is)) ∙ so_far

-- the lines of one number more
pub pieces-next : {X A : Type 0} (f : X → List A) (text whole : List A) (n : ℕ) (xs : List X) (x : X) → n < length xs → x ≡ get_or xs n x →
    text ++ flat_map f (drop n xs) ≡ whole → (text ++ f x) ++ flat_map f (drop (n + 1) xs) ≡ whole
pieces-next f text whole n xs x within is so_far =
    let next : drop n xs ≡ x ∷ drop (n + 1) xs = drop-cons xs n x within ∙ simp (← is, add-one) in
    append_assoc text (f x) (flat_map f (drop (n + 1) xs)) ∙ sym (ap (λ v. text ++ flat_map f v) next) ∙ so_far
