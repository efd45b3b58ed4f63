-- The numbers of what passes a test in a list: they rise, are within it, and are those where the test holds.
use Rattle.std.proofs.Common.{◌≡◌, ℕ, zero, suc, ◌+◌, ◌<◌, ◌≤◌, nat_eq, Bool, true, false, not, ◌||◌, ◌&&◌, if◌then◌else◌, List, [], ◌∷◌, ◌++◌, map, filter, length, get_or, All, refl, sym, ap, ◌∙◌, subst, arith, zero-add}
use Rattle.std.specs.List.{list_any, flat_map, enumerate_from}
use Rattle.std.specs.List.Sorted.{IsStrictlyIncreasing}
use Rattle.std.proofs.lemmas.Bool.Decides.{nat_tests}
use Rattle.std.proofs.lemmas.List.Elements.{All-nil, All-cons, All-weaker}
use Rattle.std.proofs.lemmas.List.Folds.{list_any_none, list_any_at}
use Rattle.std.specs.Prelude.{slice_index_or, Some, Option}
use Rattle.vod_thin_design.specs.declared.thin.Class.{Class}
use Rattle.vod_thin_design.specs.declared.thin.Input.{Input}
use Rattle.vod_thin_design.specs.declared.thin.Initial.{Initial}
use Rattle.vod_thin_design.specs.Bits.{is_known}
use Rattle.vod_thin_design.specs.Netlist.{has, is_clock}
use Rattle.vod_thin.specs.declared.names.Kind.{Kind}
use Rattle.vod_thin.specs.declared.names.Kind.TheVariants as kind
use Rattle.vod_thin.specs.Signals.{has_text, is_input, is_register}
use Rattle.vod_thin.specs.Netlists.{class_of, bit_of, input_of, initial_of}
use Rattle.vod_thin.proofs.Brought.{inputs_from, initials_from}

abbrev pub numbers_where : {X : Type 0} → (X → Bool) → ℕ → List X → List ℕ
numbers_where p k [] = []
numbers_where p k (x ∷ xs) = if p x then k ∷ numbers_where p (k + 1) xs else numbers_where p (k + 1) xs

abbrev Within : ℕ → ℕ → ℕ → Type 0
Within k n s = (k ≤ s) × (s < k + n)

pub where_within : {X : Type 0} (p : X → Bool) (k : ℕ) (xs : List X) → All (Within k (length xs)) (numbers_where p k xs)
where_within p k [] = All-nil (Within k 0)
where_within {X} p k (x ∷ xs) = by_test (p x) (All-weaker (Within (k + 1) (length xs)) (Within k (suc (length xs))) (λ s h. let (a, b) = h in (omega arith, omega arith)) (numbers_where p (k + 1) xs) (where_within p (k + 1) xs))
  where
    by_test : (b : Bool) → All (Within k (suc (length xs))) (numbers_where p (k + 1) xs) → All (Within k (suc (length xs))) (if b then k ∷ numbers_where p (k + 1) xs else numbers_where p (k + 1) xs)
    by_test true more = All-cons (Within k (suc (length xs))) k (numbers_where p (k + 1) xs) (omega arith, omega arith) more
    by_test false more = more

increasing_cons : (n : ℕ) (xs : List ℕ) → All (λ s. n < s) xs → IsStrictlyIncreasing xs → IsStrictlyIncreasing (n ∷ xs)
increasing_cons n [] above up = λ k lt. absurd (omega arith)
increasing_cons n (x ∷ xs) above up = by_place
  where
    by_place : (k : ℕ) → k + 1 < length (n ∷ x ∷ xs) → get_or (n ∷ x ∷ xs) k 0 < get_or (n ∷ x ∷ xs) (k + 1) 0
    by_place zero lt = above 0 0 (omega arith)
    by_place (suc k) lt = let P : ℕ → Type 0 = λ m. get_or (n ∷ x ∷ xs) (suc k) 0 < get_or (n ∷ x ∷ xs) m 0 in subst P (next k) (up k (omega arith))
      where
        next : (k : ℕ) → suc (k + 1) ≡ suc k + 1
        next k = omega arith

pub where_rise : {X : Type 0} (p : X → Bool) (k : ℕ) (xs : List X) → IsStrictlyIncreasing (numbers_where p k xs)
where_rise p k [] = λ i lt. absurd (omega arith)
where_rise {X} p k (x ∷ xs) = by_test (p x) (All-weaker (Within (k + 1) (length xs)) (λ s. k < s) (λ s h. let (a, b) = h in omega arith) (numbers_where p (k + 1) xs) (where_within p (k + 1) xs)) (where_rise p (k + 1) xs)
  where
    by_test : (b : Bool) → All (λ s. k < s) (numbers_where p (k + 1) xs) → IsStrictlyIncreasing (numbers_where p (k + 1) xs) → IsStrictlyIncreasing (if b then k ∷ numbers_where p (k + 1) xs else numbers_where p (k + 1) xs)
    by_test true above up = increasing_cons k (numbers_where p (k + 1) xs) above up
    by_test false above up = up

from_has : {X : Type 0} (p : X → Bool) (k : ℕ) (xs : List X) (i : ℕ) → has (numbers_where p k xs) (k + i) ≡ slice_index_or (map p xs) i false
from_has p k [] i = refl
from_has {X} p k (x ∷ xs) zero = by_test (p x)
  where
    none : has (numbers_where p (k + 1) xs) (k + 0) ≡ false
    none = list_any_none (λ m. nat_eq m (k + 0)) (numbers_where p (k + 1) xs) (All-weaker (Within (k + 1) (length xs)) (λ s. nat_eq s (k + 0) ≡ false) (λ s h. let (a, b) = h in grind (arith, nat_tests)) (numbers_where p (k + 1) xs) (where_within p (k + 1) xs))

    by_test : (b : Bool) → has (if b then k ∷ numbers_where p (k + 1) xs else numbers_where p (k + 1) xs) (k + 0) ≡ b
    by_test true = let same : nat_eq k (k + 0) ≡ true = grind (arith, nat_tests) in ap (λ b. b || has (numbers_where p (k + 1) xs) (k + 0)) same
    by_test false = none
from_has {X} p k (x ∷ xs) (suc i) = by_test (p x) (ap (has (numbers_where p (k + 1) xs)) place ∙ from_has p (k + 1) xs i)
  where
    place : k + suc i ≡ k + 1 + i
    place = omega arith

    by_test : (b : Bool) → has (numbers_where p (k + 1) xs) (k + suc i) ≡ slice_index_or (map p xs) i false → has (if b then k ∷ numbers_where p (k + 1) xs else numbers_where p (k + 1) xs) (k + suc i) ≡ slice_index_or (map p xs) i false
    by_test true more = let other : nat_eq k (k + suc i) ≡ false = grind (arith, nat_tests) in ap (λ b. b || has (numbers_where p (k + 1) xs) (k + suc i)) other ∙ more
    by_test false more = more

pub has_where : {X : Type 0} (p : X → Bool) (xs : List X) (i : ℕ) → has (numbers_where p 0 xs) i ≡ slice_index_or (map p xs) i false
has_where p xs i = ap (has (numbers_where p 0 xs)) (sym (zero-add i)) ∙ from_has p 0 xs i

-- what holds of each number that a list has
pub all_has : (P : ℕ → Type 0) (ns : List ℕ) → ((s : ℕ) → has ns s ≡ true → P s) → All P ns
all_has P ns h = λ k d lt. h (get_or ns k d) (let own : nat_eq (get_or ns k d) (get_or ns k d) ≡ true = grind (arith, nat_tests) in list_any_at (λ m. nat_eq m (get_or ns k d)) ns k d lt own)

-- the tests of signals
abbrev pub inputs_test : List ℕ × Kind → Bool
inputs_test e = is_input (Some e.1)

abbrev pub registers_test : List ℕ × Kind → Bool
registers_test e = is_register (Some e.1)

abbrev pub data_test : List (List ℕ) → List ℕ × Kind → Bool
data_test waited e = is_input (Some e.1) && not (has_text waited e.0)

abbrev pub clocks_test : List (List ℕ) → List ℕ × Kind → Bool
clocks_test waited e = is_input (Some e.1) && has_text waited e.0

pub inputs_are : (waited : List (List ℕ)) (k : ℕ) (es : List (List ℕ × Kind)) → map (λ (input : Input). input.signal) (inputs_from waited k es) ≡ numbers_where inputs_test k es
inputs_are waited k [] = refl
inputs_are waited k ((name, kind.Input) ∷ es) = ap (λ ns. k ∷ ns) (inputs_are waited (k + 1) es)
inputs_are waited k ((name, kind.Output) ∷ es) = inputs_are waited (k + 1) es
inputs_are waited k ((name, kind.Wire) ∷ es) = inputs_are waited (k + 1) es
inputs_are waited k ((name, kind.Register initial) ∷ es) = inputs_are waited (k + 1) es

pub data_are : (waited : List (List ℕ)) (k : ℕ) (es : List (List ℕ × Kind)) → map (λ (input : Input). input.signal) (filter (λ (input : Input). not (is_clock input.class)) (inputs_from waited k es)) ≡ numbers_where (data_test waited) k es
data_are waited k [] = refl
data_are waited k ((name, kind.Input) ∷ es) = by_test (has_text waited name) (data_are waited (k + 1) es)
  where
    by_test : (b : Bool) → map (λ (input : Input). input.signal) (filter (λ (input : Input). not (is_clock input.class)) (inputs_from waited (k + 1) es)) ≡ numbers_where (data_test waited) (k + 1) es
        → (let first : Input = record { signal = k; class = class_of b } in map (λ (input : Input). input.signal) (filter (λ (input : Input). not (is_clock input.class)) (first ∷ inputs_from waited (k + 1) es)))
        ≡ (if not b then k ∷ numbers_where (data_test waited) (k + 1) es else numbers_where (data_test waited) (k + 1) es)
    by_test true more = more
    by_test false more = ap (λ ns. k ∷ ns) more
data_are waited k ((name, kind.Output) ∷ es) = data_are waited (k + 1) es
data_are waited k ((name, kind.Wire) ∷ es) = data_are waited (k + 1) es
data_are waited k ((name, kind.Register initial) ∷ es) = data_are waited (k + 1) es

pub clocks_are : (waited : List (List ℕ)) (k : ℕ) (es : List (List ℕ × Kind)) → map (λ (input : Input). input.signal) (filter (λ (input : Input). is_clock input.class) (inputs_from waited k es)) ≡ numbers_where (clocks_test waited) k es
clocks_are waited k [] = refl
clocks_are waited k ((name, kind.Input) ∷ es) = by_test (has_text waited name) (clocks_are waited (k + 1) es)
  where
    by_test : (b : Bool) → map (λ (input : Input). input.signal) (filter (λ (input : Input). is_clock input.class) (inputs_from waited (k + 1) es)) ≡ numbers_where (clocks_test waited) (k + 1) es
        → (let first : Input = record { signal = k; class = class_of b } in map (λ (input : Input). input.signal) (filter (λ (input : Input). is_clock input.class) (first ∷ inputs_from waited (k + 1) es)))
        ≡ (if b then k ∷ numbers_where (clocks_test waited) (k + 1) es else numbers_where (clocks_test waited) (k + 1) es)
    by_test true more = ap (λ ns. k ∷ ns) more
    by_test false more = more
clocks_are waited k ((name, kind.Output) ∷ es) = clocks_are waited (k + 1) es
clocks_are waited k ((name, kind.Wire) ∷ es) = clocks_are waited (k + 1) es
clocks_are waited k ((name, kind.Register initial) ∷ es) = clocks_are waited (k + 1) es

pub initials_are : (k : ℕ) (es : List (List ℕ × Kind)) → map (λ (initial : Initial). initial.register) (initials_from k es) ≡ numbers_where registers_test k es
initials_are k [] = refl
initials_are k ((name, kind.Input) ∷ es) = initials_are (k + 1) es
initials_are k ((name, kind.Output) ∷ es) = initials_are (k + 1) es
initials_are k ((name, kind.Wire) ∷ es) = initials_are (k + 1) es
initials_are k ((name, kind.Register initial) ∷ es) = ap (λ ns. k ∷ ns) (initials_are (k + 1) es)

pub initials_known : (k : ℕ) (es : List (List ℕ × Kind)) → All (λ (initial : Initial). is_known initial.value ≡ true) (initials_from k es)
initials_known k [] = All-nil (λ (initial : Initial). is_known initial.value ≡ true)
initials_known k ((name, kind.Input) ∷ es) = initials_known (k + 1) es
initials_known k ((name, kind.Output) ∷ es) = initials_known (k + 1) es
initials_known k ((name, kind.Wire) ∷ es) = initials_known (k + 1) es
initials_known k ((name, kind.Register initial) ∷ es) =
    let first : Initial = record { register = k; value = bit_of initial } in
    All-cons (λ (i : Initial). is_known i.value ≡ true) first (initials_from (k + 1) es) (known initial) (initials_known (k + 1) es)
  where
    known : (b : Bool) → is_known (bit_of b) ≡ true
    known true = refl
    known false = refl
