-- Flags that a change sets.
use Rattle.std.proofs.Common.{◌≡◌, ℕ, ◌<◌, ◌||◌, zero, suc, Bool, true, false, List, [], ◌∷◌, length, arith, refl, ap, ◌∙◌, sym, Some}
use Rattle.std.specs.List.{slice_get}
use Rattle.std.proofs.lemmas.Bool.{or_left}
use Rattle.std.proofs.lemmas.List.{ext_get_or}
use Rattle.std.proofs.lemmas.Option.{same_Some}
use Rattle.vod_slot.specs.State.{flag_at}
use Rattle.vod_slot.specs.Step.{raised, raised_if}

-- whether the item at a place passes a test, false past the end
abbrev pub passes_at : {A : Type 0} → (A → Bool) → List A → ℕ → Bool
passes_at test [] place = false
passes_at test (x ∷ xs) zero = test x
passes_at test (x ∷ xs) (suc place) = passes_at test xs place

pub or-false : (b : Bool) → (b || false) ≡ b
or-false true = refl
or-false false = refl

pub length-raised : {A : Type 0} (test : A → Bool) (xs : List A) (flags : List Bool) → length (raised test xs flags) ≡ length flags
length-raised test [] flags = refl
length-raised test (x ∷ xs) [] = refl
length-raised test (x ∷ xs) (flag ∷ flags) = ap suc (length-raised test xs flags)

pub length-raised_if : {A : Type 0} (happened : Bool) (test : A → Bool) (xs : List A) (flags : List Bool) → length (raised_if happened test xs flags) ≡ length flags
length-raised_if true test xs flags = length-raised test xs flags
length-raised_if false test xs flags = refl

-- a flag that is set is one of them
pub flag_within : (flags : List Bool) (i : ℕ) → flag_at flags i ≡ true → i < length flags
flag_within [] i h = absurd (cc)
flag_within (flag ∷ flags) zero h = omega arith
flag_within (flag ∷ flags) (suc i) h = let l = flag_within flags i h in omega arith

pub flag_at-raised : {A : Type 0} (test : A → Bool) (xs : List A) (flags : List Bool) (k : ℕ) → k < length flags → flag_at (raised test xs flags) k ≡ (flag_at flags k || passes_at test xs k)
flag_at-raised test [] flags k h = sym (or-false (flag_at flags k))
flag_at-raised test (x ∷ xs) [] k h = absurd (omega arith)
flag_at-raised test (x ∷ xs) (flag ∷ flags) zero h = refl
flag_at-raised test (x ∷ xs) (flag ∷ flags) (suc k) h = flag_at-raised test xs flags k (omega arith)

-- a flag that was set still is
pub flag_at-raised_if : {A : Type 0} (happened : Bool) (test : A → Bool) (xs : List A) (flags : List Bool) (k : ℕ) → k < length flags → flag_at flags k ≡ true → flag_at (raised_if happened test xs flags) k ≡ true
flag_at-raised_if true test xs flags k h is = flag_at-raised test xs flags k h ∙ or_left (flag_at flags k) (passes_at test xs k) is
flag_at-raised_if false test xs flags k h is = is

pub passes_at-at : {A : Type 0} (test : A → Bool) (xs : List A) (k : ℕ) (x : A) → slice_get xs k ≡ Some x → passes_at test xs k ≡ test x
passes_at-at test [] k x at = absurd (cc)
passes_at-at test (first ∷ xs) zero x at = ap test (same_Some first x at)
passes_at-at test (first ∷ xs) (suc k) x at = passes_at-at test xs k x at

pub item_at : {A : Type 0} (test : A → Bool) (xs : List A) (k : ℕ) → passes_at test xs k ≡ true → (x : A) × (slice_get xs k ≡ Some x) × (test x ≡ true)
item_at test [] k h = absurd (cc)
item_at test (x ∷ xs) zero h = (x, refl, h)
item_at test (x ∷ xs) (suc k) h = item_at test xs k h

pub passes_at_within : {A : Type 0} (test : A → Bool) (xs : List A) (k : ℕ) → passes_at test xs k ≡ true → k < length xs
passes_at_within test [] k h = absurd (cc)
passes_at_within test (x ∷ xs) zero h = omega arith
passes_at_within test (x ∷ xs) (suc k) h = let l = passes_at_within test xs k h in omega arith

-- where no item passes, nothing is raised
pub raised-none : {A : Type 0} (test : A → Bool) (xs : List A) (flags : List Bool) → ((k : ℕ) → passes_at test xs k ≡ false) → raised test xs flags ≡ flags
raised-none test xs flags none =
    ext_get_or false (raised test xs flags) flags (length-raised test xs flags)
    (λ k h. let within : k < length flags = rw (← length-raised test xs flags) h in
    flag_at-raised test xs flags k within ∙ ap (λ b. flag_at flags k || b) (none k) ∙ or-false (flag_at flags k))

pub raised_if-none : {A : Type 0} (happened : Bool) (test : A → Bool) (xs : List A) (flags : List Bool) → ((k : ℕ) → passes_at test xs k ≡ false) → raised_if happened test xs flags ≡ flags
raised_if-none true test xs flags none = raised-none test xs flags none
raised_if-none false test xs flags none = refl

pub or_true : (b : Bool) → (b || true) ≡ true
or_true true = refl
or_true false = refl
