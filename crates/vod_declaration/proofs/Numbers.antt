-- The numbers of the parts whose kind the parts of a list have.
use Rattle.std.proofs.Common.{◌≡◌, ℕ, suc, ◌+◌, ◌<◌, ◌≤◌, Bool, true, false, List, [], ◌∷◌, length, refl, sym, ap, subst, ◌∙◌, arith}
use Rattle.std.proofs.lemmas.List.Elements.{All-from_recursion}
use Rattle.std.specs.List.{AllByRecursion}
use Rattle.std.specs.Prelude.{All}
use Rattle.vod_declaration.specs.Further.{number_of, numbers_from, numbers_of}

no_later : (own : Bool) (here before : ℕ) → before ≤ here → number_of own here before ≤ here
no_later true here before h = omega arith
no_later false here before h = h

-- each is that of the part itself or of one before it
below : {A : Type 0} (own : A → Bool) (here before end : ℕ) (xs : List A) → before ≤ here → here + length xs ≤ end → AllByRecursion (λ n. n < end) (numbers_from own here before xs)
below own here before end [] h e = tt
below own here before end (x ∷ xs) h e =
    let n : number_of (own x) here before ≤ here = no_later (own x) here before h in
    let far : here + suc (length xs) ≤ end = e in
    (omega (arith, n, far), below own (suc here) (number_of (own x) here before) end xs (omega (arith, n)) (omega (arith, far)))

pub each_below : {A : Type 0} (own : A → Bool) (xs : List A) (numbers : List ℕ) → numbers ≡ numbers_of own xs → All (λ n. n < length xs) numbers
each_below own xs numbers e = subst (λ v. All (λ n. n < length xs) v) (sym e) (All-from_recursion (λ n. n < length xs) (numbers_of own xs) (below own 0 0 (length xs) xs (omega arith) (omega arith)))

lengths : {A : Type 0} (own : A → Bool) (here before : ℕ) (xs : List A) → length (numbers_from own here before xs) ≡ length xs
lengths own here before [] = refl
lengths own here before (x ∷ xs) = ap suc (lengths own (suc here) (number_of (own x) here before) xs)

pub as_many : {A : Type 0} (own : A → Bool) (xs : List A) (numbers : List ℕ) → numbers ≡ numbers_of own xs → length numbers ≡ length xs
as_many own xs numbers e = ap length e ∙ lengths own 0 0 xs
