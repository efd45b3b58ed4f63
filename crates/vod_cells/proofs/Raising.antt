-- Flags that are raised at listed places are those that a test raises of all.
use Rattle.std.proofs.Common.{◌≡◌, ℕ, ◌+◌, ◌<◌, ◌≤◌, ◌==◌, ◌||◌, ◌&&◌, zero, suc, Bool, true, false, List, [], ◌∷◌, ◌++◌, length, map, flat_map, take, get_or, set, arith, refl, ap, ◌∙◌, sym, subst, ⊎_elim, All, eq-eqb, length-set, get_or-set_same, get_or-set_other, if◌then◌else◌}
use Rattle.std.specs.List.{list_any}
use Rattle.std.proofs.lemmas.Bool.{cases_eq, ne_eqb, or_cases, or_left}
use Rattle.std.proofs.lemmas.List.{ext_get_or, take_more}
use Rattle.std.proofs.lemmas.List.Elements.{All-cons}
use Rattle.std.proofs.lemmas.List.Folds.{list_any-append}
use Rattle.vod_readers.specs.Readers.{has, readers_from}
use Rattle.vod_slot.specs.State.{flag_at}
use Rattle.vod_slot.specs.Step.{raised}
use Rattle.vod_slot.proofs.Lists.{all_none}
use Rattle.vod_slot.proofs.Raised.{or-false, or_true, length-raised}
use Rattle.vod_cells.specs.Listening.{passes_at, raised_at}

pub length-raised_at : (test : ℕ → Bool) (flags : List Bool) (places : List ℕ) → length (raised_at test flags places) ≡ length flags
length-raised_at test flags [] = refl
length-raised_at test flags (place ∷ places) = length-raised_at test (set flags place (flag_at flags place || test place)) places ∙ length-set flags place (flag_at flags place || test place)

-- one more place
raised_at-push : (test : ℕ → Bool) (flags : List Bool) (places : List ℕ) (k : ℕ) → raised_at test flags (places ++ k ∷ []) ≡ set (raised_at test flags places) k (flag_at (raised_at test flags places) k || test k)
raised_at-push test flags [] k = refl
raised_at-push test flags (place ∷ places) k = raised_at-push test (set flags place (flag_at flags place || test place)) places k

pub raised_at-more : (test : ℕ → Bool) (start flags new : List Bool) (places : List ℕ) (i d : ℕ) (t : Bool) → i < length places → flags ≡ raised_at test start (take i places) → t ≡ test (get_or places i d) → new ≡ set flags (get_or places i d) (flag_at flags (get_or places i d) || t) →
    new ≡ raised_at test start (take (i + 1) places)
raised_at-more test start flags new places i d t h so is wrote =
    wrote ∙ ap (λ fs. set fs (get_or places i d) (flag_at fs (get_or places i d) || t)) so
    ∙ ap (λ b. set (raised_at test start (take i places)) (get_or places i d) (flag_at (raised_at test start (take i places)) (get_or places i d) || b)) is
    ∙ sym (ap (raised_at test start) (take_more places i d h) ∙ raised_at-push test start (take i places) (get_or places i d))

-- the item at a place passes as the test says of it
pub passes_at-is : {A : Type 0} (test : A → Bool) (xs : List A) (k : ℕ) (x : A) → k < length xs → x ≡ get_or xs k x → test x ≡ passes_at test xs k
passes_at-is test [] k x h is = absurd (omega arith)
passes_at-is test (y ∷ xs) zero x h is = ap test is
passes_at-is test (y ∷ xs) (suc k) x h is = passes_at-is test xs k x (omega arith) is

and_merges : (f e h t : Bool) → ((f || (e && t)) || (h && t)) ≡ (f || ((e || h) && t))
and_merges true e h t = refl
and_merges false true h true = refl
and_merges false true true false = refl
and_merges false true false false = refl
and_merges false false h t = refl

-- one flag after one place of the list
one_raised : (test : ℕ → Bool) (flags : List Bool) (place k : ℕ) → k < length flags → flag_at (set flags place (flag_at flags place || test place)) k ≡ (flag_at flags k || ((place == k) && test k))
one_raised test flags place k h =
    ⊎_elim
    (λ same. let here = eq-eqb place k same in
    let at : flag_at (set flags k (flag_at flags k || test k)) k ≡ (flag_at flags k || test k) = get_or-set_same flags k (flag_at flags k || test k) false h in
    subst (λ p. flag_at (set flags p (flag_at flags p || test p)) k ≡ (flag_at flags k || test k)) (sym same) at ∙ sym (ap (λ b. flag_at flags k || (b && test k)) here))
    (λ other. let apart = ne_eqb place k other in
    get_or-set_other flags place k (flag_at flags place || test place) false (λ e. other (sym e)) ∙ sym (ap (λ b. flag_at flags k || (b && test k)) apart ∙ or-false (flag_at flags k)))
    (cases_eq place k)

pub flag_at-raised_at : (test : ℕ → Bool) (flags : List Bool) (places : List ℕ) (k : ℕ) → k < length flags → flag_at (raised_at test flags places) k ≡ (flag_at flags k || (has places k && test k))
flag_at-raised_at test flags [] k h = sym (or-false (flag_at flags k))
flag_at-raised_at test flags (place ∷ places) k h =
    let next = set flags place (flag_at flags place || test place) in
    flag_at-raised_at test next places k (omega (arith, length-set flags place (flag_at flags place || test place)))
    ∙ ap (λ b. b || (has places k && test k)) (one_raised test flags place k h)
    ∙ and_merges (flag_at flags k) (place == k) (has places k) (test k)

flag_at-raised : {A : Type 0} (test : A → Bool) (xs : List A) (flags : List Bool) (k : ℕ) → k < length flags → flag_at (raised test xs flags) k ≡ (flag_at flags k || passes_at test xs k)
flag_at-raised test [] flags k h = sym (or-false (flag_at flags k))
flag_at-raised test (x ∷ xs) [] k h = absurd (omega arith)
flag_at-raised test (x ∷ xs) (flag ∷ flags) zero h = refl
flag_at-raised test (x ∷ xs) (flag ∷ flags) (suc k) h = flag_at-raised test xs flags k (omega arith)

-- the readers that are listed
has_if : (b : Bool) (j m : ℕ) (rest : List ℕ) → has (if b then j ∷ rest else rest) m ≡ ((b && (j == m)) || has rest m)
has_if true j m rest = refl
has_if false j m rest = refl

and-false : (b : Bool) → (b && false) ≡ false
and-false true = refl
and-false false = refl

and-true : (b : Bool) → (b && true) ≡ b
and-true true = refl
and-true false = refl

has_before : {A : Type 0} (sources : A → List ℕ) (j : ℕ) (xs : List A) (n m : ℕ) → m < j → has (readers_from sources j xs n) m ≡ false
has_before sources j [] n m h = refl
has_before sources j (x ∷ xs) n m h =
    let apart : (j == m) ≡ false = ne_eqb j m (λ e. omega arith) in
    has_if (has (sources x) n) j m (readers_from sources (suc j) xs n)
    ∙ ap (λ b. (has (sources x) n && b) || has (readers_from sources (suc j) xs n) m) apart
    ∙ ap (λ b. b || has (readers_from sources (suc j) xs n) m) (and-false (has (sources x) n))
    ∙ has_before sources (suc j) xs n m (omega arith)

has_from : {A : Type 0} (sources : A → List ℕ) (j : ℕ) (xs : List A) (n i m : ℕ) → m ≡ j + i → has (readers_from sources j xs n) m ≡ passes_at (λ x. has (sources x) n) xs i
has_from sources j [] n i m e = refl
has_from sources j (x ∷ xs) n zero m e =
    let here : (j == m) ≡ true = eq-eqb j m (omega (arith, e)) in
    has_if (has (sources x) n) j m (readers_from sources (suc j) xs n)
    ∙ ap (λ b. (has (sources x) n && b) || has (readers_from sources (suc j) xs n) m) here
    ∙ ap (λ b. b || has (readers_from sources (suc j) xs n) m) (and-true (has (sources x) n))
    ∙ ap (λ b. has (sources x) n || b) (has_before sources (suc j) xs n m (omega (arith, e)))
    ∙ or-false (has (sources x) n)
has_from sources j (x ∷ xs) n (suc i) m e =
    let apart : (j == m) ≡ false = ne_eqb j m (λ q. omega (arith, e, q)) in
    has_if (has (sources x) n) j m (readers_from sources (suc j) xs n)
    ∙ ap (λ b. (has (sources x) n && b) || has (readers_from sources (suc j) xs n) m) apart
    ∙ ap (λ b. b || has (readers_from sources (suc j) xs n) m) (and-false (has (sources x) n))
    ∙ has_from sources (suc j) xs n i m (omega (arith, e))

-- where each item that passes the test has the source, the listed ones are all that pass
covers_one : (t p : Bool) → (t ≡ true → p ≡ true) → (p && t) ≡ t
covers_one true p h = and-true p ∙ h refl
covers_one false p h = and-false p

covers : {A : Type 0} (test whole : A → Bool) (xs : List A) (k : ℕ) → ((x : A) → test x ≡ true → whole x ≡ true) → (passes_at whole xs k && passes_at test xs k) ≡ passes_at test xs k
covers test whole [] k h = refl
covers test whole (x ∷ xs) zero h = covers_one (test x) (whole x) (h x)
covers test whole (x ∷ xs) (suc k) h = covers test whole xs k h

pub raised_listed : {A : Type 0} (test : A → Bool) (sources : A → List ℕ) (xs : List A) (n : ℕ) (flags : List Bool) → ((x : A) → test x ≡ true → has (sources x) n ≡ true) → raised_at (passes_at test xs) flags (readers_from sources 0 xs n) ≡ raised test xs flags
raised_listed test sources xs n flags h =
    let places = readers_from sources 0 xs n in
    ext_get_or false (raised_at (passes_at test xs) flags places) (raised test xs flags) (length-raised_at (passes_at test xs) flags places ∙ sym (length-raised test xs flags))
    (λ k l. let within : k < length flags = omega (arith, l, length-raised_at (passes_at test xs) flags places) in
    flag_at-raised_at (passes_at test xs) flags places k within
    ∙ ap (λ b. flag_at flags k || (b && passes_at test xs k)) (has_from sources 0 xs n k k (omega arith))
    ∙ ap (λ b. flag_at flags k || b) (covers test (λ x. has (sources x) n) xs k h)
    ∙ sym (flag_at-raised test xs flags k within))

-- the listed readers are items
within_if : (b : Bool) (j count : ℕ) (rest : List ℕ) → j < count → All (λ k. k < count) rest → All (λ k. k < count) (if b then j ∷ rest else rest)
within_if true j count rest h more = All-cons (λ k. k < count) j rest h more
within_if false j count rest h more = more

pub listed_within : {A : Type 0} (sources : A → List ℕ) (j : ℕ) (xs : List A) (n count : ℕ) → j + length xs ≤ count → All (λ k. k < count) (readers_from sources j xs n)
listed_within sources j [] n count h = all_none (λ k. k < count)
listed_within sources j (x ∷ xs) n count h = within_if (has (sources x) n) j count (readers_from sources (suc j) xs n) (omega arith) (listed_within sources (suc j) xs n count (omega arith))

-- the same of the items that a function gives
pub raised-map : {A B : Type 0} (f : A → B) (test : B → Bool) (xs : List A) (flags : List Bool) → raised test (map f xs) flags ≡ raised (λ x. test (f x)) xs flags
raised-map f test [] flags = refl
raised-map f test (x ∷ xs) [] = refl
raised-map f test (x ∷ xs) (flag ∷ flags) = ap (λ more. (flag || test (f x)) ∷ more) (raised-map f test xs flags)

pub readers-map : {A B : Type 0} (f : A → B) (sources : B → List ℕ) (j : ℕ) (xs : List A) (n : ℕ) → readers_from sources j (map f xs) n ≡ readers_from (λ x. sources (f x)) j xs n
readers-map f sources j [] n = refl
readers-map f sources j (x ∷ xs) n = ap (λ more. if has (sources (f x)) n then j ∷ more else more) (readers-map f sources (suc j) xs n)

-- what a write touches is of what it writes
pub any_in : {A : Type 0} (test : A → Bool) (give : A → List ℕ) (n : ℕ) (xs : List A) → ((x : A) → test x ≡ true → has (give x) n ≡ true) → list_any test xs ≡ true → has (flat_map give xs) n ≡ true
any_in test give n [] h is = absurd (cc)
any_in test give n (x ∷ xs) h is =
    list_any-append (λ m. m == n) (give x) (flat_map give xs)
    ∙ ⊎_elim
    (λ here. or_left (has (give x) n) (has (flat_map give xs) n) (h x here))
    (λ later. ap (λ b. has (give x) n || b) (any_in test give n xs h later) ∙ or_true (has (give x) n))
    (or_cases (test x) (list_any test xs) is)
