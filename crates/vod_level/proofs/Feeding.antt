-- The feeds that are found are those of the bits that drivers write and read.
use Rattle.std.proofs.Common.{◌≡◌, ℕ, zero, suc, ◌+◌, ◌-◌, ◌*◌, ◌<◌, ◌≤◌, ◌==◌, Bool, true, false, ◌&&◌, Option, Some, None, List, [], ◌∷◌, length, get_or, map, All, refl, sym, subst, ap, ◌∙◌, arith, inl, inr, zero-add, add-zero, eq-eqb}
use Rattle.std.specs.List.{list_any, slice_get}
use Rattle.std.proofs.lemmas.List.Elements.{All-nil, All-head, All-tail, All-append, All-cons}
use Rattle.std.proofs.lemmas.List.Folds.{list_any-append, Any-from_list_any, list_any-from_Any, list_any_at}
use Rattle.std.proofs.lemmas.Bool.{cases_lt, or_cases, or_left, or_right, and_parts, and_from, eqb-true}
use Rattle.vod_bits.specs.declared.TheConstants.{WIDTH}
use Rattle.vod_design.specs.declared.parts.Driver.{Driver}
use Rattle.vod_design.specs.declared.statement.Place.{Place}
use Rattle.vod_design.specs.declared.read.Read.{Read}
use Rattle.vod_design.specs.Reads.{reads}
use Rattle.vod_fanout.specs.declared.Feed.{Feed}
use Rattle.vod_fanout.specs.FanOut.{readers_of, fan_out}
use Rattle.vod_fanout.proofs.Lists.{each_at, each_length}
use Rattle.vod_level.specs.declared.TheConstants.{SIGNALS}
use Rattle.vod_design.specs.Feeds.{is_read, meets, both_meet, feeds}
use Rattle.vod_level.specs.Lists.{has, has_feed, is_feed, feed}
use Rattle.vod_level.specs.Bits.{number_of, written_from, read_span, writes_read, feeds_from}
use Rattle.vod_level.proofs.Counts.{has_reader}
use Rattle.vod_level.proofs.Writing.{same_test, IsInSpan, read_in, in_read, among_some, some_among, target_feed, feed_target}

abbrev pub IsBit : Place → Type 0
IsBit b = (b.signal < SIGNALS) × (b.bit < WIDTH)

abbrev pub AreBits : List Driver → Type 0
AreBits ds = All (λ d. All (λ b. (b.signal < SIGNALS) × (b.bit < WIDTH)) d.target) ds

-- the numbers of the bits that are written
target_inside : (k : ℕ) (target : List Place) → All (λ b. (b.signal < SIGNALS) × (b.bit < WIDTH)) target → All (λ f. f.source < SIGNALS * WIDTH) (map (λ b. feed (number_of b) k) target)
target_inside k [] all = All-nil (λ f. f.source < SIGNALS * WIDTH)
target_inside k (b ∷ bs) all =
    let head = All-head (λ b. (b.signal < SIGNALS) × (b.bit < WIDTH)) b bs all in
    All-cons (λ f. f.source < SIGNALS * WIDTH) (feed (number_of b) k) (map (λ b. feed (number_of b) k) bs) (omega (arith, head.0, head.1)) (target_inside k bs (All-tail (λ b. (b.signal < SIGNALS) × (b.bit < WIDTH)) b bs all))

pub written_inside : (k : ℕ) (ds : List Driver) → AreBits ds → All (λ f. f.source < SIGNALS * WIDTH) (written_from k ds)
written_inside k [] all = All-nil (λ f. f.source < SIGNALS * WIDTH)
written_inside k (d ∷ ds) all =
    All-append (λ f. f.source < SIGNALS * WIDTH) (map (λ b. feed (number_of b) k) d.target) (written_from (suc k) ds) (target_inside k d.target (All-head (λ d. All (λ b. (b.signal < SIGNALS) × (b.bit < WIDTH)) d.target) d ds all))
    (written_inside (suc k) ds (All-tail (λ d. All (λ b. (b.signal < SIGNALS) × (b.bit < WIDTH)) d.target) d ds all))

-- who wrote a bit
written_some : (k : ℕ) (ds : List Driver) (b p : ℕ) → has_feed (written_from k ds) b p ≡ true → (i : ℕ) × (d : Driver) × (p ≡ k + i) × (slice_get ds i ≡ Some d) × (list_any (λ w. number_of w == b) d.target ≡ true)
written_some k [] b p h = absurd (let e : false ≡ true = h in cc)
written_some k (d ∷ ds) b p h =
    elim (or_cases (has_feed (map (λ b. feed (number_of b) k) d.target) b p) (has_feed (written_from (suc k) ds) b p) (sym (list_any-append (is_feed b p) (map (λ b. feed (number_of b) k) d.target) (written_from (suc k) ds)) ∙ h)) [
      | inl here ↦ (let t = target_feed k d.target b p here in (0, d, sym t.0 ∙ sym (add-zero k), refl, t.1))
      | inr later ↦ (let ih = written_some (suc k) ds b p later in (suc ih.0, ih.1, omega (arith, ih.2), ih.3, ih.4))
    ]

some_written : (k : ℕ) (ds : List Driver) (b i : ℕ) (d : Driver) → slice_get ds i ≡ Some d → list_any (λ w. number_of w == b) d.target ≡ true → has_feed (written_from k ds) b (k + i) ≡ true
some_written k [] b i d e h = absurd (cc)
some_written k (c ∷ ds) b zero d e h =
    let same : c ≡ d = cc in
    let here : has_feed (map (λ b. feed (number_of b) k) c.target) b (k + zero) ≡ true = ap (has_feed (map (λ b. feed (number_of b) k) c.target) b) (add-zero k) ∙ feed_target k c.target b (ap (λ q. list_any (λ w. number_of w == b) q.target) same ∙ h) in
    list_any-append (is_feed b (k + zero)) (map (λ b. feed (number_of b) k) c.target) (written_from (suc k) ds) ∙ or_left (has_feed (map (λ b. feed (number_of b) k) c.target) b (k + zero)) (has_feed (written_from (suc k) ds) b (k + zero)) here
some_written k (c ∷ ds) b (suc i) d e h =
    let at : k + suc i ≡ suc k + i = omega arith in
    let later : has_feed (written_from (suc k) ds) b (k + suc i) ≡ true = ap (has_feed (written_from (suc k) ds) b) at ∙ some_written (suc k) ds b i d e h in
    list_any-append (is_feed b (k + suc i)) (map (λ b. feed (number_of b) k) c.target) (written_from (suc k) ds) ∙ or_right (has_feed (map (λ b. feed (number_of b) k) c.target) b (k + suc i)) (has_feed (written_from (suc k) ds) b (k + suc i)) later

-- who reads what a driver writes
feeds_some : (t : List (List ℕ)) (k : ℕ) (ds : List Driver) (p q : ℕ) → feeds_from t k ds p q ≡ true → (i : ℕ) × (d : Driver) × (q ≡ k + i) × (slice_get ds i ≡ Some d) × (list_any (writes_read t p) (reads d.value) ≡ true)
feeds_some t k [] p q h = absurd (let e : false ≡ true = h in cc)
feeds_some t k (d ∷ ds) p q h =
    elim (or_cases (list_any (writes_read t p) (reads d.value) && (k == q)) (feeds_from t (suc k) ds p q) h) [
      | inl here ↦ (let parts = and_parts (list_any (writes_read t p) (reads d.value)) (k == q) here in (0, d, sym (eqb-true k q parts.1) ∙ sym (add-zero k), refl, parts.0))
      | inr later ↦ (let ih = feeds_some t (suc k) ds p q later in (suc ih.0, ih.1, omega (arith, ih.2), ih.3, ih.4))
    ]

some_feeds : (t : List (List ℕ)) (k : ℕ) (ds : List Driver) (p i : ℕ) (d : Driver) → slice_get ds i ≡ Some d → list_any (writes_read t p) (reads d.value) ≡ true → feeds_from t k ds p (k + i) ≡ true
some_feeds t k [] p i d e h = absurd (cc)
some_feeds t k (c ∷ ds) p zero d e h =
    let same : c ≡ d = cc in
    let here : list_any (writes_read t p) (reads c.value) ≡ true = ap (λ q. list_any (writes_read t p) (reads q.value)) same ∙ h in
    or_left (list_any (writes_read t p) (reads c.value) && (k == (k + zero))) (feeds_from t (suc k) ds p (k + zero)) (and_from (list_any (writes_read t p) (reads c.value)) (k == (k + zero)) here (eq-eqb k (k + zero) (sym (add-zero k))))
some_feeds t k (c ∷ ds) p (suc i) d e h =
    let at : k + suc i ≡ suc k + i = omega arith in
    or_right (list_any (writes_read t p) (reads c.value) && (k == (k + suc i))) (feeds_from t (suc k) ds p (k + suc i)) (ap (feeds_from t (suc k) ds p) at ∙ some_feeds t (suc k) ds p i d e h)

-- tests of the elements of a list
any_more : {X : Type 0} (P : X → Type 0) (f g : X → Bool) → ((x : X) → P x → f x ≡ true → g x ≡ true) → (xs : List X) → All P xs → list_any f xs ≡ true → list_any g xs ≡ true
any_more P f g h [] all e = absurd (let q : false ≡ true = e in cc)
any_more P f g h (x ∷ xs) all e =
    elim (or_cases (f x) (list_any f xs) e) [
      | inl here ↦ or_left (g x) (list_any g xs) (h x (All-head P x xs all) here)
      | inr later ↦ or_right (g x) (list_any g xs) (any_more P f g h xs (All-tail P x xs all) later)
    ]

swapped : {X Y : Type 0} (f : X → Y → Bool) (xs : List X) (ys : List Y) → list_any (λ x. list_any (λ y. f x y) ys) xs ≡ true → list_any (λ y. list_any (λ x. f x y) xs) ys ≡ true
swapped f xs ys h =
    let a = Any-from_list_any (λ x. list_any (λ y. f x y) ys) xs h in
    let b = Any-from_list_any (λ y. f a.1 y) ys a.4 in
    list_any-from_Any (λ y. list_any (λ x. f x y) xs) ys (b.0, b.1, b.2, b.3, list_any-from_Any (λ x. f x b.1) xs (a.0, a.1, a.2, a.3, b.4))

at_past : {X : Type 0} (xs : List X) (i : ℕ) (d : X) → length xs ≤ i → get_or xs i d ≡ d
at_past [] i d h = refl
at_past (x ∷ xs) zero d h = absurd (omega arith)
at_past (x ∷ xs) (suc i) d h = at_past xs i d (omega arith)

writer : (fs : List Feed) (n b p : ℕ) → has (get_or (fan_out n fs) b []) p ≡ true → has_feed fs b p ≡ true
writer fs n b p h =
    elim (cases_lt b n) [
      | inl less ↦ sym (has_reader fs b p) ∙ ap (λ j. has (readers_of fs j) p) (sym (zero-add b)) ∙ ap (λ l. has l p) (sym (each_at (readers_of fs) 0 n b [] less)) ∙ h
      | inr far ↦ absurd (let size = each_length (readers_of fs) 0 n in let none : has [] p ≡ true = ap (λ l. has l p) (sym (at_past (fan_out n fs) b [] (omega arith))) ∙ h in let e : false ≡ true = none in cc)
    ]

is_writer : (fs : List Feed) (n b p : ℕ) → b < n → has_feed fs b p ≡ true → has (get_or (fan_out n fs) b []) p ≡ true
is_writer fs n b p less h = ap (λ l. has l p) (each_at (readers_of fs) 0 n b [] less) ∙ ap (λ j. has (readers_of fs j) p) (zero-add b) ∙ has_reader fs b p ∙ h

all_at : (P : Driver → Type 0) (ds : List Driver) (i : ℕ) (d : Driver) → slice_get ds i ≡ Some d → All P ds → P d
all_at P [] i d e all = absurd (cc)
all_at P (c ∷ ds) zero d e all = let same : c ≡ d = cc in subst P same (All-head P c ds all)
all_at P (c ∷ ds) (suc i) d e all = all_at P ds i d e (All-tail P c ds all)

-- one driver writes what is read exactly where one of its bits is read
read_written : (ds : List Driver) (p : ℕ) (r : Read) → AreBits ds → writes_read (fan_out (SIGNALS * WIDTH) (written_from 0 ds)) p r ≡ true → (d : Driver) × (slice_get ds p ≡ Some d) × (list_any (λ w. is_read w r) d.target ≡ true)
read_written ds p r all h =
    let t = fan_out (SIGNALS * WIDTH) (written_from 0 ds) in
    let s = read_span r in
    let a = among_some t s.first (s.end - s.first) p h in
    let w = written_some 0 ds a.0 p (writer (written_from 0 ds) (SIGNALS * WIDTH) a.0 p a.3) in
    let at : slice_get ds p ≡ Some w.1 = ap (slice_get ds) (w.2 ∙ zero-add w.0) ∙ w.3 in
    let bits = all_at (λ d. All (λ b. (b.signal < SIGNALS) × (b.bit < WIDTH)) d.target) ds p w.1 at all in
    let lo : s.first ≤ a.0 = a.1 in
    let hi : a.0 < s.end = omega (arith, a.1, a.2) in (
      w.1,
      at,
      any_more (λ b. (b.signal < SIGNALS) × (b.bit < WIDTH)) (λ v. number_of v == a.0) (λ v. is_read v r) (λ v inside e. (
          let is : number_of v ≡ a.0 = eqb-true (number_of v) a.0 e in
          let P : ℕ → Type 0 = λ n. IsInSpan n s in
          read_in r v inside.1 (subst P (sym is) (lo, hi)))) w.1.target bits w.4,
    )

written_read : (ds : List Driver) (p : ℕ) (r : Read) (d : Driver) → AreBits ds → slice_get ds p ≡ Some d → list_any (λ w. is_read w r) d.target ≡ true → writes_read (fan_out (SIGNALS * WIDTH) (written_from 0 ds)) p r ≡ true
written_read ds p r d all at h =
    let t = fan_out (SIGNALS * WIDTH) (written_from 0 ds) in
    let s = read_span r in
    let bits = all_at (λ d. All (λ b. (b.signal < SIGNALS) × (b.bit < WIDTH)) d.target) ds p d at all in
    let a = Any-from_list_any (λ w. is_read w r) d.target h in
    let P : Place → Type 0 = λ b. (b.signal < SIGNALS) × (b.bit < WIDTH) in
    let inside : P a.1 = subst P a.3 (bits a.0 a.1 a.2) in
    let i = in_read r a.1 inside.1 inside.0 a.4 in
    let same : list_any (λ v. number_of v == number_of a.1) d.target ≡ true = list_any-from_Any (λ v. number_of v == number_of a.1) d.target (a.0, a.1, a.2, a.3, eq-eqb (number_of a.1) (number_of a.1) refl) in
    let wrote = ap (has_feed (written_from 0 ds) (number_of a.1)) (sym (zero-add p)) ∙ some_written 0 ds (number_of a.1) p d at same in
    let has_it = is_writer (written_from 0 ds) (SIGNALS * WIDTH) (number_of a.1) p (omega (arith, inside.0, inside.1)) wrote in
    some_among t s.first (s.end - s.first) p (number_of a.1) i.0 (omega (arith, i.0, i.1)) has_it

all_any : {X : Type 0} (xs : List X) → All (λ x. Unit {0}) xs
all_any xs = λ k d h. tt

some_same : (a b : Driver) → Some a ≡ Some b → a ≡ b
some_same a b e = cc

to_feeds : (ds : List Driver) (p q : ℕ) → AreBits ds → feeds_from (fan_out (SIGNALS * WIDTH) (written_from 0 ds)) 0 ds p q ≡ true → feeds ds p q ≡ true
to_feeds ds p q all h =
    let t = fan_out (SIGNALS * WIDTH) (written_from 0 ds) in
    let f = feeds_some t 0 ds p q h in
    let at_q : slice_get ds q ≡ Some f.1 = ap (slice_get ds) (f.2 ∙ zero-add f.0) ∙ f.3 in
    let a = Any-from_list_any (writes_read t p) (reads f.1.value) f.4 in
    let d = read_written ds p a.1 all a.4 in
    let met : list_any (λ r. list_any (λ w. is_read w r) d.0.target) (reads f.1.value) ≡ true = any_more (λ r. Unit {0}) (writes_read t p) (λ r. list_any (λ w. is_read w r) d.0.target) (λ r u e. (
    let w = read_written ds p r all e in
    let same : w.0 ≡ d.0 = some_same w.0 d.0 (sym w.1 ∙ d.1) in
    ap (λ k. list_any (λ w. is_read w r) k.target) (sym same) ∙ w.2)) (reads f.1.value) (all_any (reads f.1.value)) f.4 in
    ap (λ o. both_meet o (slice_get ds q)) d.1 ∙ ap (both_meet (Some d.0)) at_q ∙ swapped (λ r w. is_read w r) (reads f.1.value) d.0.target met

both_some : (a b : Option Driver) → both_meet a b ≡ true → (p : Driver) × (q : Driver) × (a ≡ Some p) × (b ≡ Some q) × (meets p q ≡ true)
both_some (Some p) (Some q) h = (p, q, refl, refl, h)
both_some (Some p) None h = absurd (let e : false ≡ true = h in cc)
both_some None b h = absurd (let e : false ≡ true = h in cc)

from_feeds : (ds : List Driver) (p q : ℕ) → AreBits ds → feeds ds p q ≡ true → feeds_from (fan_out (SIGNALS * WIDTH) (written_from 0 ds)) 0 ds p q ≡ true
from_feeds ds p q all h =
    let t = fan_out (SIGNALS * WIDTH) (written_from 0 ds) in
    let b = both_some (slice_get ds p) (slice_get ds q) h in
    let met = swapped (λ w r. is_read w r) b.0.target (reads b.1.value) b.4 in
    let reads_it : list_any (writes_read t p) (reads b.1.value) ≡ true = any_more (λ r. Unit {0}) (λ r. list_any (λ w. is_read w r) b.0.target) (writes_read t p) (λ r u e. written_read ds p r b.0 all b.2 e) (reads b.1.value) (all_any (reads b.1.value)) met in
    ap (feeds_from t 0 ds p) (sym (zero-add q)) ∙ some_feeds t 0 ds p q b.1 b.3 reads_it

pub feeds_are : (ds : List Driver) (t : List (List ℕ)) (list : List Feed) (p q : ℕ) → AreBits ds → t ≡ fan_out (SIGNALS * WIDTH) (written_from 0 ds) → has_feed list p q ≡ feeds_from t 0 ds p q → has_feed list p q ≡ feeds ds p q
feeds_are ds t list p q all made found = found ∙ ap (λ w. feeds_from w 0 ds p q) made ∙ same_test (feeds_from (fan_out (SIGNALS * WIDTH) (written_from 0 ds)) 0 ds p q) (feeds ds p q) (to_feeds ds p q all) (from_feeds ds p q all)

get_below : (ds : List Driver) (i : ℕ) (d : Driver) → slice_get ds i ≡ Some d → i < length ds
get_below [] i d e = absurd (cc)
get_below (c ∷ ds) zero d e = omega arith
get_below (c ∷ ds) (suc i) d e = (let ih = get_below ds i d e in omega arith)

-- feeds are between drivers
pub feeds_below : (ds : List Driver) (p q : ℕ) → feeds ds p q ≡ true → (p < length ds) × (q < length ds)
feeds_below ds p q h = let b = both_some (slice_get ds p) (slice_get ds q) h in (get_below ds p b.0 b.2, get_below ds q b.1 b.3)

-- the list of all feeds, as far as callers see
pub listed_source : (ds : List Driver) (fs gs : List Feed) → gs ≡ fs → ((p q : ℕ) → has_feed fs p q ≡ feeds ds p q) → All (λ f. f.source < length ds) gs
listed_source ds fs gs e h = λ k d lt. (
    let f = get_or gs k d in
    let there : has_feed gs f.source f.reader ≡ true = list_any_at (is_feed f.source f.reader) gs k d lt (and_from (f.source == f.source) (f.reader == f.reader) (eq-eqb f.source f.source refl) (eq-eqb f.reader f.reader refl)) in
    (feeds_below ds f.source f.reader (sym (h f.source f.reader) ∙ ap (λ l. has_feed l f.source f.reader) (sym e) ∙ there)).0)

pub listed_reader : (ds : List Driver) (fs gs : List Feed) → gs ≡ fs → ((p q : ℕ) → has_feed fs p q ≡ feeds ds p q) → All (λ f. f.reader < length ds) gs
listed_reader ds fs gs e h = λ k d lt. (
    let f = get_or gs k d in
    let there : has_feed gs f.source f.reader ≡ true = list_any_at (is_feed f.source f.reader) gs k d lt (and_from (f.source == f.source) (f.reader == f.reader) (eq-eqb f.source f.source refl) (eq-eqb f.reader f.reader refl)) in
    (feeds_below ds f.source f.reader (sym (h f.source f.reader) ∙ ap (λ l. has_feed l f.source f.reader) (sym e) ∙ there)).1)

pub same_feeds : (ds : List Driver) (fs gs : List Feed) → gs ≡ fs → ((p q : ℕ) → has_feed fs p q ≡ feeds ds p q) → has_feed gs ≡ feeds ds
same_feeds ds fs gs e h = ap has_feed e ∙ (λ i p q. h p q i)
