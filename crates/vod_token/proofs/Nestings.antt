-- Laws on the counts of operators.
use Rattle.std.proofs.Common.{◌≡◌, ℕ, ◌+◌, ◌<◌, ◌≤◌, List, [], ◌∷◌, arith, length, drop, get_or, drop-cons, add-one, refl, sym, ◌∙◌, ap, cond, true, false, Some, None}
use Rattle.std.proofs.lemmas.Bool.Decides.{nat_tests}
use Rattle.std.proofs.lemmas.Grind.{common_steps}
use Rattle.std.proofs.lemmas.List.{length-reverse}
use Rattle.std.proofs.lemmas.List.Sorted.{IsPermutation-reverse, sum_by-IsPermutation}
use Rattle.std.proofs.lemmas.List.Sums.{sum_by-cons}
use Rattle.std.specs.Prelude.{sum, reverse, nat_lt}
use Rattle.vod_token.specs.Nesting.{nesting, changed, effect_of, slice_of, too_deep}
use Rattle.vod_token.specs.declared.TheConstants.{NESTING}
use Rattle.vod_token.specs.declared.Token.{Token}
use Rattle.vod_token.specs.declared.nesting.Effect.{Effect}
use Rattle.vod_token.specs.declared.nesting.Effect.TheVariants.{Opens, Closes, Separates, Counts, Leaves}

sum_cons : (x : ℕ) (xs : List ℕ) → sum (x ∷ xs) ≡ x + sum xs
sum_cons x xs = sum_by-cons (λ y. y) x xs

sum_reverse : (xs : List ℕ) → sum (reverse xs) ≡ sum xs
sum_reverse xs = sum_by-IsPermutation (λ y. y) xs (reverse xs) (IsPermutation-reverse xs)

-- The nesting, by the last count and the outer ones.
pub nesting_is : (last : ℕ) (outer : List ℕ) → nesting (last ∷ reverse outer) ≡ last + sum outer + length outer
nesting_is last outer =
    let head = sum_cons last (reverse outer) in
    let turned = sum_reverse outer in
    let long : length (reverse outer) ≡ length outer = length-reverse outer in
    omega arith

-- A token takes the nesting up by one at most.
pub changed_small : (effect : Effect) (count : ℕ) (counts : List ℕ) → nesting (changed effect count counts) ≤ nesting (count ∷ counts) + 1
changed_small Opens count counts = let a = sum_cons 0 (count ∷ counts) in omega arith
changed_small Closes count [] = omega arith
changed_small Closes count (outer ∷ counts) = let a = sum_cons count (outer ∷ counts) in omega arith
changed_small Separates count counts = let a = sum_cons count counts in let b = sum_cons 0 counts in omega arith
changed_small Counts count counts = let a = sum_cons count counts in let b = sum_cons (count + 1) counts in omega arith
changed_small Leaves count counts = omega arith

-- A last count is within the nesting.
pub last_small : (count : ℕ) (counts : List ℕ) → count ≤ nesting (count ∷ counts)
last_small count counts = let a = sum_cons count counts in omega arith

-- The next token: it is too deep, or what is left decides.
next_deep : (source : List ℕ) (last : ℕ) (outer : List ℕ) (ts : List Token) (i : ℕ) (d : Token) (effect : Effect) (new : List ℕ) → i < length ts
    → effect ≡ effect_of (get_or ts i d).kind (slice_of source (get_or ts i d)) → new ≡ changed effect last outer
    → too_deep source (last ∷ outer) (drop i ts) ≡ cond (nat_lt NESTING (nesting new)) (Some (get_or ts i d).start) (too_deep source new (drop (i + 1) ts))
next_deep source last outer ts i d effect new lt e f =
    let same : new ≡ changed (effect_of (get_or ts i d).kind (slice_of source (get_or ts i d))) last outer = f ∙ ap (λ x. changed x last outer) e in
    rw (add-one, drop-cons ts i d lt, same) refl

pub deep_here : (source : List ℕ) (last : ℕ) (outer : List ℕ) (ts : List Token) (i : ℕ) (d : Token) (effect : Effect) (new : List ℕ) → i < length ts
    → effect ≡ effect_of (get_or ts i d).kind (slice_of source (get_or ts i d)) → new ≡ changed effect last outer → NESTING < nesting new
    → too_deep source (last ∷ outer) (drop i ts) ≡ Some (get_or ts i d).start
deep_here source last outer ts i d effect new lt e f large =
    let test : nat_lt NESTING (nesting new) ≡ true = grind (arith, nat_tests) in
    next_deep source last outer ts i d effect new lt e f ∙ rw test refl

pub deep_later : (source : List ℕ) (last : ℕ) (outer : List ℕ) (ts : List Token) (i : ℕ) (d : Token) (effect : Effect) (new : List ℕ) → i < length ts
    → effect ≡ effect_of (get_or ts i d).kind (slice_of source (get_or ts i d)) → new ≡ changed effect last outer → nesting new ≤ NESTING
    → too_deep source new (drop (i + 1) ts) ≡ too_deep source (last ∷ outer) (drop i ts)
deep_later source last outer ts i d effect new lt e f small =
    let test : nat_lt NESTING (nesting new) ≡ false = grind (arith, nat_tests) in
    sym (next_deep source last outer ts i d effect new lt e f ∙ rw test refl)

pub deep_none : (source counts : List ℕ) (ts : List Token) (i : ℕ) → length ts ≤ i → too_deep source counts (drop i ts) ≡ None
deep_none source counts ts i le = let none : drop i ts ≡ [] = grind (arith, common_steps) in rw none refl
