-- Flags that are set at a list of places, and flags that a change of a signal sets.
use Rattle.std.proofs.Common.{◌≡◌, ℕ, ◌<◌, ◌==◌, ◌||◌, zero, suc, Bool, true, false, List, [], ◌∷◌, length, get_or, set, arith, refl, ap, ◌∙◌, sym, subst, ⊎_elim, All, eq-eqb, length-set, get_or-set_same, get_or-set_other, Some}
use Rattle.std.specs.List.{slice_get}
use Rattle.std.proofs.lemmas.Bool.{cases_eq, ne_eqb, or_left}
use Rattle.std.proofs.lemmas.List.{ext_get_or}
use Rattle.std.proofs.lemmas.List.Elements.{All-from_get_or}
use Rattle.std.proofs.lemmas.Option.{same_Some}
use Rattle.vod_thin_design.specs.Netlist.{has}
use Rattle.vod_thin_queue.specs.State.{flag_at, list_at}
use Rattle.vod_thin_queue.specs.Step.{raised, raised_if}
use Rattle.vod_thin_queue.specs.Flags.{set_all, set_where}
use Rattle.vod_thin_queue.specs.Index.{passes_at, IsIndex}
use Rattle.vod_thin_queue.proofs.Has.{or-false, or-true, has-get_or}

pub length-set_all : (flags : List Bool) (places : List ℕ) → length (set_all flags places) ≡ length flags
length-set_all flags [] = refl
length-set_all flags (place ∷ places) = length-set_all (set flags place true) places ∙ length-set flags place true

or_place : (flags : List Bool) (place k : ℕ) (b : Bool) → k < length flags → (flag_at (set flags place true) k || b) ≡ (flag_at flags k || ((place == k) || b))
or_place flags place k b h =
    ⊎_elim
    (λ same. let test = eq-eqb place k same in
    let at : flag_at (set flags place true) k ≡ true = subst (λ n. flag_at (set flags place true) n ≡ true) same (get_or-set_same flags place true false (subst (λ n. n < length flags) (sym same) h)) in
    rw (at, test) (sym (or-true (flag_at flags k))))
    (λ other. let test = ne_eqb place k other in
    let at : flag_at (set flags place true) k ≡ flag_at flags k = get_or-set_other flags place k true false (λ e. other (sym e)) in
    rw (at, test) refl)
    (cases_eq place k)

pub flag_at-set_all : (flags : List Bool) (places : List ℕ) (k : ℕ) → k < length flags → flag_at (set_all flags places) k ≡ (flag_at flags k || has places k)
flag_at-set_all flags [] k h = sym (or-false (flag_at flags k))
flag_at-set_all flags (place ∷ places) k h =
    flag_at-set_all (set flags place true) places k (rw length-set h) ∙ or_place flags place k (has places k) h

pub length-raised : {A : Type 0} (test : A → Bool) (xs : List A) (flags : List Bool) → length (raised test xs flags) ≡ length flags
length-raised test [] flags = refl
length-raised test (x ∷ xs) [] = refl
length-raised test (x ∷ xs) (flag ∷ flags) = ap suc (length-raised test xs flags)

pub length-raised_if : {A : Type 0} (happened : Bool) (test : A → Bool) (xs : List A) (flags : List Bool) → length (raised_if happened test xs flags) ≡ length flags
length-raised_if true test xs flags = length-raised test xs flags
length-raised_if false test xs flags = refl

-- a flag that is set is one of them
pub flag_within : (flags : List Bool) (i : ℕ) → flag_at flags i ≡ true → i < length flags
flag_within [] i h = absurd (cc)
flag_within (flag ∷ flags) zero h = omega arith
flag_within (flag ∷ flags) (suc i) h = let l = flag_within flags i h in omega arith

pub flag_at-raised : {A : Type 0} (test : A → Bool) (xs : List A) (flags : List Bool) (k : ℕ) → k < length flags → flag_at (raised test xs flags) k ≡ (flag_at flags k || passes_at test xs k)
flag_at-raised test [] flags k h = sym (or-false (flag_at flags k))
flag_at-raised test (x ∷ xs) [] k h = absurd (omega arith)
flag_at-raised test (x ∷ xs) (flag ∷ flags) zero h = refl
flag_at-raised test (x ∷ xs) (flag ∷ flags) (suc k) h = flag_at-raised test xs flags k (omega arith)

-- a flag that was set still is
pub flag_at-raised_if : {A : Type 0} (happened : Bool) (test : A → Bool) (xs : List A) (flags : List Bool) (k : ℕ) → k < length flags → flag_at flags k ≡ true → flag_at (raised_if happened test xs flags) k ≡ true
flag_at-raised_if true test xs flags k h is = flag_at-raised test xs flags k h ∙ or_left (flag_at flags k) (passes_at test xs k) is
flag_at-raised_if false test xs flags k h is = is

pub passes_at-at : {A : Type 0} (test : A → Bool) (xs : List A) (k : ℕ) (x : A) → slice_get xs k ≡ Some x → passes_at test xs k ≡ test x
passes_at-at test [] k x at = absurd (cc)
passes_at-at test (first ∷ xs) zero x at = ap test (same_Some first x at)
passes_at-at test (first ∷ xs) (suc k) x at = passes_at-at test xs k x at

pub item_at : {A : Type 0} (test : A → Bool) (xs : List A) (k : ℕ) → passes_at test xs k ≡ true → (x : A) × (slice_get xs k ≡ Some x) × (test x ≡ true)
item_at test [] k h = absurd (cc)
item_at test (x ∷ xs) zero h = (x, refl, h)
item_at test (x ∷ xs) (suc k) h = item_at test xs k h

pub passes_at_within : {A : Type 0} (test : A → Bool) (xs : List A) (k : ℕ) → passes_at test xs k ≡ true → k < length xs
passes_at_within test [] k h = absurd (cc)
passes_at_within test (x ∷ xs) zero h = omega arith
passes_at_within test (x ∷ xs) (suc k) h = let l = passes_at_within test xs k h in omega arith

-- where no item passes, nothing is raised
pub raised-none : {A : Type 0} (test : A → Bool) (xs : List A) (flags : List Bool) → ((k : ℕ) → passes_at test xs k ≡ false) → raised test xs flags ≡ flags
raised-none test xs flags none =
    ext_get_or false (raised test xs flags) flags (length-raised test xs flags)
    (λ k h. let within : k < length flags = rw (← length-raised test xs flags) h in
    flag_at-raised test xs flags k within ∙ ap (λ b. flag_at flags k || b) (none k) ∙ or-false (flag_at flags k))

pub raised_if-none : {A : Type 0} (happened : Bool) (test : A → Bool) (xs : List A) (flags : List Bool) → ((k : ℕ) → passes_at test xs k ≡ false) → raised_if happened test xs flags ≡ flags
raised_if-none true test xs flags none = raised-none test xs flags none
raised_if-none false test xs flags none = refl

-- to set the flags of the listed items is to raise those of the items that pass
pub set_all-listed : {A : Type 0} (test : ℕ → A → Bool) (items : List A) (signals : ℕ) (lists : List (List ℕ)) (s : ℕ) (flags : List Bool) → IsIndex test items signals lists → s < signals → set_all flags (list_at lists s) ≡ raised (test s) items flags
set_all-listed test items signals lists s flags index h =
    ext_get_or false (set_all flags (list_at lists s)) (raised (test s) items flags) (length-set_all flags (list_at lists s) ∙ sym (length-raised (test s) items flags))
    (λ k l. let within : k < length flags = rw (← length-set_all flags (list_at lists s)) l in
    flag_at-set_all flags (list_at lists s) k within ∙ ap (λ b. flag_at flags k || b) (index.exact s k h) ∙ sym (flag_at-raised (test s) items flags k within))

pub set_where-listed : {A : Type 0} (happened : Bool) (test : ℕ → A → Bool) (items : List A) (signals : ℕ) (lists : List (List ℕ)) (s : ℕ) (flags : List Bool) → IsIndex test items signals lists → s < signals → set_where happened flags (list_at lists s) ≡ raised_if happened (test s) items flags
set_where-listed true test items signals lists s flags index h = set_all-listed test items signals lists s flags index h
set_where-listed false test items signals lists s flags index h = refl

-- the listed places are those of items
pub listed_within : {A : Type 0} (test : ℕ → A → Bool) (items : List A) (signals : ℕ) (lists : List (List ℕ)) (s : ℕ) → IsIndex test items signals lists → s < signals → All (λ k. k < length items) (list_at lists s)
listed_within test items signals lists s index h =
    All-from_get_or (λ k. k < length items) (list_at lists s) 0
    (λ i l. passes_at_within (test s) items (get_or (list_at lists s) i 0) (sym (index.exact s (get_or (list_at lists s) i 0) h) ∙ has-get_or (list_at lists s) i 0 l))
