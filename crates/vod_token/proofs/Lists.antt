-- Laws on lists that the reader's laws stand on.
use Rattle.std.proofs.Common.{◌≡◌, ℕ, zero, suc, ◌<◌, ◌⊎◌, inl, inr, List, [], ◌∷◌, ◌++◌, arith, length, get_or, refl, cond, true, false, Bool, Option, Some, None}
use Rattle.std.specs.List.{prefix_len, AllByRecursion}
use Rattle.std.specs.Option.{option_map, option_and_then}
use Rattle.std.specs.Prelude.{Contains}

-- A run that a byte outside of the class ends has the length of what stands before that byte.
pub run_is : (p : ℕ → Bool) (a : List ℕ) (b : ℕ) (c : List ℕ) → AllByRecursion (λ x. p x ≡ true) a → p b ≡ false → prefix_len p (a ++ b ∷ c) ≡ length a
run_is p [] b c h e = rw e refl
run_is p (x ∷ xs) b c h e = rw h.0 (let more = run_is p xs b c h.1 e in omega arith)

-- A run through all of the bytes has their length.
pub run_whole : (p : ℕ → Bool) (a : List ℕ) → AllByRecursion (λ x. p x ≡ true) a → prefix_len p a ≡ length a
run_whole p [] h = refl
run_whole p (x ∷ xs) h = rw h.0 (let more = run_whole p xs h.1 in omega arith)

-- What a function of an option's value gave.
pub mapped : {A B : Type 0} (f : A → B) (o : Option A) (y : B) → option_map f o ≡ Some y → (x : A) × (o ≡ Some x) × (f x ≡ y)
mapped f None y e = cc
mapped f (Some x) y e = (x, refl, cc)

pub chained : {A B : Type 0} (f : A → Option B) (o : Option A) (y : B) → option_and_then f o ≡ Some y → (x : A) × (o ≡ Some x) × (f x ≡ Some y)
chained f None y e = cc
chained f (Some x) y e = (x, refl, e)

-- A value that stands under a test.
pub kept : {A : Type 0} (b : Bool) (o : Option A) (y : A) → cond b None o ≡ Some y → (b ≡ false) × (o ≡ Some y)
kept true o y e = cc
kept false o y e = (refl, e)

pub tested : {A : Type 0} (b : Bool) (x y : A) → cond b (Some x) None ≡ Some y → (b ≡ true) × (x ≡ y)
tested true x y e = (refl, cc)
tested false x y e = cc

-- The first entry of a table, or a later one.
pub contains_cons : {X : Type 0} (x : X) (xs : List X) (y : X) → Contains (x ∷ xs) y → (x ≡ y) ⊎ Contains xs y
contains_cons x xs y c = contains_by c.0 c.1 c.2
  where
    contains_by : (k : ℕ) → k < suc (length xs) → get_or (x ∷ xs) k y ≡ y → (x ≡ y) ⊎ Contains xs y
    contains_by zero lt e = inl e
    contains_by (suc k) lt e = inr (k, omega arith, e)

pub contains_here : {X : Type 0} (x : X) (xs : List X) → Contains (x ∷ xs) x
contains_here x xs = (0, omega arith, refl)

pub contains_more : {X : Type 0} (x : X) (xs : List X) (y : X) → Contains xs y → Contains (x ∷ xs) y
contains_more x xs y c = (suc c.0, (let lt = c.1 in omega arith), c.2)
