-- Feeds that are collected with marks give each source its readers, each once.
use Rattle.std.proofs.Common.{◌≡◌, ◌≢◌, ℕ, zero, suc, ◌+◌, ◌<◌, ◌≤◌, ◌==◌, nat_lt, Bool, true, false, not, ◌&&◌, ◌||◌, if◌then◌else◌, List, [], ◌∷◌, ◌++◌, length, drop, replicate, get_or, slice_index_or, slice_set, refl, sym, subst, ◌∙◌, ap, arith, inl, inr, add-one, drop-cons, append_assoc, All}
use Rattle.std.proofs.Math.ListN.{set, drop_of_length-le}
use Rattle.std.proofs.lemmas.Bool.{cases_lt, lt-ltb, ltb-true}
use Rattle.std.proofs.lemmas.Bool.Decides.{eqb_tells}
use Rattle.std.proofs.lemmas.List.{append-nil, get_or_past, get_or-set_same, get_or-set_other, length-replicate, length-set}
use Rattle.std.proofs.lemmas.List.Elements.{All-nil, All-push}
use Rattle.vod_fanout.specs.FanOut.{readers_of, each_from, fan_out}
use Rattle.vod_fanout.specs.declared.Feed.{Feed}
use Rattle.vod_readers.specs.Readers.{has, readers_from}
use Rattle.vod_readers.specs.Collected.{feed, is_new, marked, fed, marks_after, feeds_after, feeds_all}

-- an element that a loop has come to, and its end
pub drop_item : {A : Type 0} (xs : List A) (i : ℕ) (x : A) → x ≡ get_or xs i x → i < length xs → drop i xs ≡ x ∷ drop (i + 1) xs
drop_item xs i x is h = rw add-one (drop-cons xs i x h ∙ ap (λ y. y ∷ drop (suc i) xs) (sym is))

pub drop_past : {A : Type 0} (i : ℕ) (xs : List A) → length xs ≤ i → drop i xs ≡ []
drop_past i xs h = drop_of_length-le xs h

-- a number where a test holds
abbrev one : Bool → ℕ → List ℕ
one true k = k ∷ []
one false k = []

if_one : (b : Bool) (k : ℕ) (ks : List ℕ) → (if b then k ∷ ks else ks) ≡ one b k ++ ks
if_one true k ks = refl
if_one false k ks = refl

readers_step : (f : Feed) (fs : List Feed) (n : ℕ) → readers_of (f ∷ fs) n ≡ one (f.source == n) f.reader ++ readers_of fs n
readers_step f fs n = if_one (f.source == n) f.reader (readers_of fs n)

readers_more : (fs : List Feed) (s k n : ℕ) → readers_of (fs ++ feed s k ∷ []) n ≡ readers_of fs n ++ one (s == n) k
readers_more [] s k n = readers_step (feed s k) [] n ∙ append-nil (one (s == n) k)
readers_more (f ∷ fs) s k n =
    readers_step f (fs ++ feed s k ∷ []) n ∙ ap (λ ks. one (f.source == n) f.reader ++ ks) (readers_more fs s k n)
    ∙ sym (append_assoc (one (f.source == n) f.reader) (readers_of fs n) (one (s == n) k))
    ∙ sym (ap (λ ks. ks ++ one (s == n) k) (readers_step f fs n))

abbrev is_marked : ℕ → List ℕ → ℕ → Bool
is_marked k marks n = slice_index_or marks n 0 == k + 1

length_if : (b : Bool) (k : ℕ) (marks : List ℕ) (s : ℕ) → length (if b then slice_set marks s (k + 1) else marks) ≡ length marks
length_if true k marks s = length-set marks s (k + 1)
length_if false k marks s = refl

marked_length : (k : ℕ) (marks : List ℕ) (s : ℕ) → length (marked k marks s) ≡ length marks
marked_length k marks s = length_if (is_new k marks s) k marks s

same_is : (n : ℕ) → (n == n) ≡ true
same_is n = elim (eqb_tells n n) [ inl e ↦ e.0 | inr e ↦ absurd (e.1 refl) ]

and_false : (a : Bool) → (a && false) ≡ false
and_false true = refl
and_false false = refl

unmarked : (k : ℕ) (marks : List ℕ) (n : ℕ) → slice_index_or marks n 0 ≤ k → not (is_marked k marks n) ≡ true
unmarked k marks n low = elim (eqb_tells (slice_index_or marks n 0) (k + 1)) [ inl e ↦ absurd (omega (arith, e.1)) | inr e ↦ ap not e.0 ]

-- what two tests together tell
both_true : (a b : Bool) → true ≡ (a && b) → (a ≡ true) × (b ≡ true)
both_true true true e = (refl, refl)
both_true true false e = absurd (cc)
both_true false b e = absurd (cc)

second_false : (a b : Bool) → false ≡ (a && b) → a ≡ true → b ≡ false
second_false true b e t = sym e
second_false false b e t = absurd (cc)

not_true : (a : Bool) → not a ≡ true → a ≡ false
not_true false e = refl
not_true true e = absurd (cc)

-- one source more: seen from another source, or from itself
step_with : (k : ℕ) (marks : List ℕ) (fs : List Feed) (s n : ℕ) (b new : Bool) → n < length marks → new ≡ (nat_lt s (length marks) && not (is_marked k marks s))
    → readers_of (if new then fs ++ feed s k ∷ [] else fs) n ++ one (not (is_marked k (if new then slice_set marks s (k + 1) else marks) n) && b) k
    ≡ readers_of fs n ++ one (not (is_marked k marks n) && ((s == n) || b)) k
step_with k marks fs s n b false inside e = elim (eqb_tells s n) [
  | inl same ↦ (
      let lt : nat_lt s (length marks) ≡ true = lt-ltb s (length marks) (omega (arith, same.1)) in
      let there : not (is_marked k marks s) ≡ false = second_false (nat_lt s (length marks)) (not (is_marked k marks s)) e lt in
      let hidden : not (is_marked k marks n) ≡ false = sym (ap (λ m. not (is_marked k marks m)) same.1) ∙ there in
      ap (λ c. readers_of fs n ++ one (c && b) k) hidden ∙ sym (ap (λ c. readers_of fs n ++ one (c && ((s == n) || b)) k) hidden))
  | inr other ↦ sym (ap (λ c. readers_of fs n ++ one (not (is_marked k marks n) && (c || b)) k) other.0)
]
step_with k marks fs s n b true inside e =
    let facts = both_true (nat_lt s (length marks)) (not (is_marked k marks s)) e in
    let within : s < length marks = ltb-true s (length marks) facts.0 in
    let more = readers_more fs s k n in
    elim (eqb_tells s n) [
      | inl same ↦ (
          let set_here : slice_index_or (slice_set marks s (k + 1)) s 0 ≡ k + 1 = get_or-set_same marks s (k + 1) 0 within in
          let now : is_marked k (slice_set marks s (k + 1)) n ≡ true =
          ap (λ m. slice_index_or (slice_set marks s (k + 1)) m 0 == k + 1) (sym same.1) ∙ ap (λ m. m == k + 1) set_here ∙ same_is (k + 1) in
          let clear : not (is_marked k marks n) ≡ true = sym (ap (λ m. not (is_marked k marks m)) same.1) ∙ facts.1 in
          ap (λ ks. ks ++ one (not (is_marked k (slice_set marks s (k + 1)) n) && b) k) more
          ∙ ap (λ c. (readers_of fs n ++ one (s == n) k) ++ one (not c && b) k) now
          ∙ append-nil (readers_of fs n ++ one (s == n) k)
          ∙ ap (λ c. readers_of fs n ++ one c k) same.0
          ∙ sym (ap (λ c. readers_of fs n ++ one (c && ((s == n) || b)) k) clear ∙ ap (λ c. readers_of fs n ++ one (c || b) k) same.0))
      | inr other ↦ (
          let apart : n ≢ s = λ q. other.1 (sym q) in
          let kept : slice_index_or (slice_set marks s (k + 1)) n 0 ≡ slice_index_or marks n 0 = get_or-set_other marks s n (k + 1) 0 apart in
          ap (λ ks. ks ++ one (not (is_marked k (slice_set marks s (k + 1)) n) && b) k) more
          ∙ ap (λ m. (readers_of fs n ++ one (s == n) k) ++ one (not (m == k + 1) && b) k) kept
          ∙ ap (λ c. (readers_of fs n ++ one c k) ++ one (not (is_marked k marks n) && b) k) other.0
          ∙ ap (λ ks. ks ++ one (not (is_marked k marks n) && b) k) (append-nil (readers_of fs n))
          ∙ sym (ap (λ c. readers_of fs n ++ one (not (is_marked k marks n) && (c || b)) k) other.0))
    ]

-- all sources of a reader
once : (k : ℕ) (marks : List ℕ) (fs : List Feed) (ss : List ℕ) (n : ℕ) → n < length marks
    → readers_of (feeds_after k marks fs ss) n ≡ readers_of fs n ++ one (not (is_marked k marks n) && has ss n) k
once k marks fs [] n inside = sym (ap (λ c. readers_of fs n ++ one c k) (and_false (not (is_marked k marks n))) ∙ append-nil (readers_of fs n))
once k marks fs (s ∷ ss) n inside =
    once k (marked k marks s) (fed k marks fs s) ss n (omega (arith, marked_length k marks s))
    ∙ step_with k marks fs s n (has ss n) (is_new k marks s) inside refl

marks_length : (k : ℕ) (marks ss : List ℕ) → length (marks_after k marks ss) ≡ length marks
marks_length k marks [] = refl
marks_length k marks (s ∷ ss) = marks_length k (marked k marks s) ss ∙ marked_length k marks s

-- no mark is above that of the last reader
abbrev pub AtMost : ℕ → List ℕ → Type 0
AtMost k marks = (n : ℕ) → slice_index_or marks n 0 ≤ k

at_most_if : (k : ℕ) (marks : List ℕ) (s : ℕ) (b : Bool) → AtMost (k + 1) marks → AtMost (k + 1) (if b then slice_set marks s (k + 1) else marks)
at_most_if k marks s false low n = low n
at_most_if k marks s true low n = elim (eqb_tells n s) [
  | inl same ↦ elim (cases_lt s (length marks)) [
    | inl lt ↦ (
        let here : slice_index_or (slice_set marks s (k + 1)) s 0 ≡ k + 1 = get_or-set_same marks s (k + 1) 0 lt in
        let there : slice_index_or (slice_set marks s (k + 1)) n 0 ≡ slice_index_or (slice_set marks s (k + 1)) s 0 = ap (λ m. slice_index_or (slice_set marks s (k + 1)) m 0) same.1 in
        omega (arith, here, there))
    | inr past ↦ (
        let size = length-set marks s (k + 1) in
        let none : slice_index_or (slice_set marks s (k + 1)) n 0 ≡ 0 = get_or_past (slice_set marks s (k + 1)) n 0 (omega (arith, size, same.1)) in
        omega (arith, none))
  ]
  | inr other ↦ (
      let kept : slice_index_or (slice_set marks s (k + 1)) n 0 ≡ slice_index_or marks n 0 = get_or-set_other marks s n (k + 1) 0 other.1 in
      omega (arith, kept, low n))
]

at_most_after : (k : ℕ) (marks ss : List ℕ) → AtMost (k + 1) marks → AtMost (k + 1) (marks_after k marks ss)
at_most_after k marks [] low = low
at_most_after k marks (s ∷ ss) low = at_most_after k (marked k marks s) ss (at_most_if k marks s (is_new k marks s) low)

-- all readers
all_once : {A : Type 0} (f : A → List ℕ) (k : ℕ) (marks : List ℕ) (fs : List Feed) (xs : List A) (n : ℕ) → n < length marks → AtMost k marks
    → readers_of (feeds_all f k marks fs xs) n ≡ readers_of fs n ++ readers_from f k xs n
all_once f k marks fs [] n inside low = sym (append-nil (readers_of fs n))
all_once f k marks fs (x ∷ xs) n inside low =
    let next = marks_after k marks (f x) in
    let above : AtMost (k + 1) marks = λ m. omega (arith, low m) in
    let after : AtMost (suc k) next = subst (λ j. AtMost j next) (add-one k) (at_most_after k marks (f x) above) in
    let clear : not (is_marked k marks n) ≡ true = unmarked k marks n (low n) in
    all_once f (suc k) next (feeds_after k marks fs (f x)) xs n (omega (arith, marks_length k marks (f x), inside)) after
    ∙ ap (λ ks. ks ++ readers_from f (suc k) xs n) (once k marks fs (f x) n inside)
    ∙ ap (λ c. (readers_of fs n ++ one (c && has (f x) n) k) ++ readers_from f (suc k) xs n) clear
    ∙ append_assoc (readers_of fs n) (one (has (f x) n) k) (readers_from f (suc k) xs n)
    ∙ sym (ap (λ ks. readers_of fs n ++ ks) (if_one (has (f x) n) k (readers_from f (suc k) xs n)))

-- the readers are those of all sources, as no mark is set at first
zeros_low : (count : ℕ) → AtMost 0 (replicate count 0)
zeros_low zero n = omega arith
zeros_low (suc count) zero = omega arith
zeros_low (suc count) (suc n) = zeros_low count n

each_same : (f g : ℕ → List ℕ) (k n : ℕ) → ((i : ℕ) → i < k + n → f i ≡ g i) → each_from f k n ≡ each_from g k n
each_same f g k zero h = refl
each_same f g k (suc n) h =
    let here : f k ≡ g k = h k (omega arith) in
    let more : each_from f (suc k) n ≡ each_from g (suc k) n = each_same f g (suc k) n (λ i lt. h i (omega arith)) in
    cc

pub collected : {A : Type 0} (f : A → List ℕ) (count : ℕ) (xs : List A) (feeds : List Feed) → feeds ≡ feeds_all f 0 (replicate count 0) [] xs
    → fan_out count feeds ≡ each_from (readers_from f 0 xs) 0 count
collected f count xs feeds is =
    let none : ℕ = 0 in
    let size : length (replicate count none) ≡ count = length-replicate count none in
    ap (fan_out count) is
    ∙ each_same (readers_of (feeds_all f 0 (replicate count 0) [] xs)) (readers_from f 0 xs) 0 count
    (λ i lt. all_once f 0 (replicate count 0) [] xs i (omega (arith, size)) (zeros_low count))

-- their sources are those that there are
abbrev pub AllInside : ℕ → List Feed → Type 0
AllInside count fs = All (λ (f : Feed). f.source < count) fs

fed_if : (count k s : ℕ) (fs : List Feed) (size : ℕ) (b c : Bool) → b ≡ (nat_lt s size && c) → size ≡ count → AllInside count fs → AllInside count (if b then fs ++ feed s k ∷ [] else fs)
fed_if count k s fs size false c e same inside = inside
fed_if count k s fs size true c e same inside =
    let facts = both_true (nat_lt s size) c e in
    let lt : s < size = ltb-true s size facts.0 in
    All-push (λ (f : Feed). f.source < count) fs (feed s k) inside (omega (arith, same))

after_inside : (count k : ℕ) (marks : List ℕ) (fs : List Feed) (ss : List ℕ) → length marks ≡ count → AllInside count fs → AllInside count (feeds_after k marks fs ss)
after_inside count k marks fs [] same inside = inside
after_inside count k marks fs (s ∷ ss) same inside =
    after_inside count k (marked k marks s) (fed k marks fs s) ss (marked_length k marks s ∙ same)
    (fed_if count k s fs (length marks) (is_new k marks s) (not (is_marked k marks s)) refl same inside)

all_inside : {A : Type 0} (f : A → List ℕ) (count k : ℕ) (marks : List ℕ) (fs : List Feed) (xs : List A) → length marks ≡ count → AllInside count fs → AllInside count (feeds_all f k marks fs xs)
all_inside f count k marks fs [] same inside = inside
all_inside f count k marks fs (x ∷ xs) same inside =
    all_inside f count (suc k) (marks_after k marks (f x)) (feeds_after k marks fs (f x)) xs (marks_length k marks (f x) ∙ same) (after_inside count k marks fs (f x) same inside)

pub collected_inside : {A : Type 0} (f : A → List ℕ) (count : ℕ) (xs : List A) (feeds : List Feed) → feeds ≡ feeds_all f 0 (replicate count 0) [] xs → AllInside count feeds
collected_inside f count xs feeds is =
    let none : ℕ = 0 in
    let size : length (replicate count none) ≡ count = length-replicate count none in
    subst (AllInside count) (sym is) (all_inside f count 0 (replicate count 0) [] xs size (All-nil (λ (f : Feed). f.source < count)))

-- a loop over the readers goes on by one
pub go_on : {A : Type 0} (f : A → List ℕ) (xs : List A) (k : ℕ) (x : A) (marks marks_new sources : List ℕ) (fs fs_new total : List Feed) → x ≡ get_or xs k x → k < length xs
    → sources ≡ f x → marks_new ≡ marks_after k marks sources → fs_new ≡ feeds_after k marks fs sources
    → feeds_all f k marks fs (drop k xs) ≡ total → feeds_all f (k + 1) marks_new fs_new (drop (k + 1) xs) ≡ total
go_on f xs k x marks marks_new sources fs fs_new total is lt those marks_is feeds_is before =
    let rest = drop (k + 1) xs in
    let opened : feeds_all f k marks fs (x ∷ rest) ≡ total = sym (ap (feeds_all f k marks fs) (drop_item xs k x is lt)) ∙ before in
    ap (λ ms. feeds_all f (k + 1) ms fs_new rest) (marks_is ∙ ap (marks_after k marks) those)
    ∙ ap (λ gs. feeds_all f (k + 1) (marks_after k marks (f x)) gs rest) (feeds_is ∙ ap (feeds_after k marks fs) those)
    ∙ ap (λ j. feeds_all f j (marks_after k marks (f x)) (feeds_after k marks fs (f x)) rest) (add-one k)
    ∙ opened

-- and ends with all
pub ended : {A : Type 0} (f : A → List ℕ) (xs : List A) (k : ℕ) (marks : List ℕ) (fs total : List Feed) → length xs ≤ k → feeds_all f k marks fs (drop k xs) ≡ total → fs ≡ total
ended f xs k marks fs total past is = sym (ap (feeds_all f k marks fs) (drop_past k xs past)) ∙ is
