-- Which bits drivers write and read, step by step and in all.
use Rattle.std.proofs.Common.{◌≡◌, ℕ, zero, suc, ◌+◌, ◌-◌, ◌*◌, ◌<◌, ◌≤◌, ◌==◌, min, Bool, true, false, ◌&&◌, ◌||◌, if◌then◌else◌, nat_lt, nat_le, Some, List, [], ◌∷◌, ◌++◌, length, take, get_or, map, refl, sym, subst, ap, ◌∙◌, arith, inl, inr, zero-add, add-zero, add-one, eq-eqb, append_assoc, append-nil, take-suc}
use Rattle.std.specs.List.{list_any, slice_get}
use Rattle.std.proofs.lemmas.List.{length-take-le}
use Rattle.std.proofs.lemmas.Bool.{cases_lt, cases_eq, or_cases, or_left, or_right, and_parts, and_from, eqb-true, ltb-true, leb-true, lt-ltb, le-ltb, le-leb}
use Rattle.vod_bits.specs.declared.TheConstants.{WIDTH}
use Rattle.vod_design.specs.declared.parts.Driver.{Driver}
use Rattle.vod_design.specs.declared.statement.Place.{Place}
use Rattle.vod_design.specs.declared.read.Read.{Read}
use Rattle.vod_design.specs.declared.read.Read.TheVariants.{Whole, Bits, Word, Ram}
use Rattle.vod_design.specs.Reads.{reads}
use Rattle.vod_design.specs.Values.{bounded}
use Rattle.vod_fanout.specs.declared.Feed.{Feed}
use Rattle.vod_level.specs.declared.TheConstants.{SIGNALS}
use Rattle.vod_level.specs.declared.edges.Span.{Span}
use Rattle.vod_design.specs.Feeds.{is_read}
use Rattle.vod_level.specs.Lists.{has, has_feed, feed}
use Rattle.vod_level.specs.Bits.{number_of, written_from, span_of, read_span, writes_among, writes_read, feeds_from}

taken : {X : Type 0} (xs : List X) (i : ℕ) (d : X) → i < length xs → take (i + 1) xs ≡ take i xs ++ get_or xs i d ∷ []
taken xs i d h = rw (add-one i) (take-suc xs i d h)

written_push : (k : ℕ) (ds : List Driver) (d : Driver) → written_from k (ds ++ d ∷ []) ≡ written_from k ds ++ map (λ b. feed (number_of b) (k + length ds)) d.target
written_push k [] d = append-nil (map (λ b. feed (number_of b) k) d.target) ∙ ap (λ j. map (λ b. feed (number_of b) j) d.target) (sym (add-zero k))
written_push k (e ∷ ds) d =
    ap (λ r. map (λ b. feed (number_of b) k) e.target ++ r) (written_push (suc k) ds d ∙ ap (λ j. written_from (suc k) ds ++ map (λ b. feed (number_of b) j) d.target) (let q : suc k + length ds ≡ k + suc (length ds) = omega arith in q))
    ∙ sym (append_assoc (map (λ b. feed (number_of b) k) e.target) (written_from (suc k) ds) (map (λ b. feed (number_of b) (k + suc (length ds))) d.target))

pub written_step : (ds : List Driver) (i : ℕ) (d : Driver) (held new : List Feed) → d ≡ get_or ds i d → i < length ds → held ≡ written_from 0 (take i ds) → new ≡ held ++ map (λ b. feed (number_of b) i) d.target → new ≡ written_from 0 (take (i + 1) ds)
written_step ds i d held new is lt h added =
    let front : take (i + 1) ds ≡ take i ds ++ d ∷ [] = taken ds i d lt ∙ ap (λ e. take i ds ++ e ∷ []) (sym is) in
    let size : i ≡ 0 + length (take i ds) = sym (zero-add (length (take i ds)) ∙ length-take-le i ds (omega arith)) in
    added ∙ ap (λ l. l ++ map (λ b. feed (number_of b) i) d.target) h ∙ ap (λ j. written_from 0 (take i ds) ++ map (λ b. feed (number_of b) j) d.target) size ∙ sym (written_push 0 (take i ds) d) ∙ ap (written_from 0) (sym front)

or_or : (a b c : Bool) → (a || (b || c)) ≡ ((a || b) || c)
or_or true b c = refl
or_or false b c = refl

or_false : (b : Bool) → (b || false) ≡ b
or_false true = refl
or_false false = refl

writes_push : (t : List (List ℕ)) (b n p : ℕ) → writes_among t b (suc n) p ≡ (writes_among t b n p || has (get_or t (b + n) []) p)
writes_push t b zero p = or_false (has (get_or t b []) p) ∙ ap (λ j. has (get_or t j []) p) (sym (add-zero b))
writes_push t b (suc n) p =
    ap (λ r. has (get_or t b []) p || r) (writes_push t (suc b) n p ∙ ap (λ j. writes_among t (suc b) n p || has (get_or t j []) p) (let q : suc b + n ≡ b + suc n = omega arith in q))
    ∙ or_or (has (get_or t b []) p) (writes_among t (suc b) n p) (has (get_or t (b + suc n) []) p)

joined : (o w h r : Bool) → ((o || (w && r)) || (h && r)) ≡ (o || ((w || h) && r))
joined true w h r = refl
joined false true true true = refl
joined false true true false = refl
joined false true false true = refl
joined false true false false = refl
joined false false true true = refl
joined false false true false = refl
joined false false false true = refl
joined false false false false = refl

pub span_step : (t : List (List ℕ)) (first bit reader p q : ℕ) (old held new : List Feed) (ws : List ℕ) → first ≤ bit → ws ≡ get_or t bit [] → has_feed held p q ≡ (has_feed old p q || (writes_among t first (bit - first) p && (reader == q)))
    → has_feed new p q ≡ (has_feed held p q || (has ws p && (reader == q))) → has_feed new p q ≡ (has_feed old p q || (writes_among t first (bit + 1 - first) p && (reader == q)))
span_step t first bit reader p q old held new ws le is h added =
    let more : bit + 1 - first ≡ suc (bit - first) = omega arith in
    let at : bit ≡ first + (bit - first) = omega arith in
    added ∙ ap (λ b. b || (has ws p && (reader == q))) h ∙ joined (has_feed old p q) (writes_among t first (bit - first) p) (has ws p) (reader == q)
    ∙ ap (λ b. has_feed old p q || ((writes_among t first (bit - first) p || b) && (reader == q))) (ap (λ l. has l p) is ∙ ap (λ j. has (get_or t j []) p) at)
    ∙ ap (λ b. has_feed old p q || (b && (reader == q))) (sym (writes_push t first (bit - first) p)) ∙ ap (λ n. has_feed old p q || (writes_among t first n p && (reader == q))) (sym more)

feeds_push : (t : List (List ℕ)) (k : ℕ) (ds : List Driver) (d : Driver) (p q : ℕ) → feeds_from t k (ds ++ d ∷ []) p q ≡ (feeds_from t k ds p q || (list_any (writes_read t p) (reads d.value) && ((k + length ds) == q)))
feeds_push t k [] d p q = or_false (list_any (writes_read t p) (reads d.value) && (k == q)) ∙ ap (λ j. list_any (writes_read t p) (reads d.value) && (j == q)) (sym (add-zero k))
feeds_push t k (e ∷ ds) d p q =
    ap (λ r. (list_any (writes_read t p) (reads e.value) && (k == q)) || r) (feeds_push t (suc k) ds d p q ∙ ap (λ j. feeds_from t (suc k) ds p q || (list_any (writes_read t p) (reads d.value) && (j == q))) (let z : suc k + length ds ≡ k + suc (length ds) = omega arith in z))
    ∙ or_or (list_any (writes_read t p) (reads e.value) && (k == q)) (feeds_from t (suc k) ds p q) (list_any (writes_read t p) (reads d.value) && ((k + suc (length ds)) == q))

pub feeds_step : (t : List (List ℕ)) (ds : List Driver) (i : ℕ) (d : Driver) (p q : ℕ) (held new : List Feed) (rs : List Read) → d ≡ get_or ds i d → i < length ds → rs ≡ reads d.value → has_feed held p q ≡ feeds_from t 0 (take i ds) p q
    → has_feed new p q ≡ (has_feed held p q || (list_any (writes_read t p) rs && (i == q))) → has_feed new p q ≡ feeds_from t 0 (take (i + 1) ds) p q
feeds_step t ds i d p q held new rs is lt read h added =
    let front : take (i + 1) ds ≡ take i ds ++ d ∷ [] = taken ds i d lt ∙ ap (λ e. take i ds ++ e ∷ []) (sym is) in
    let size : i ≡ 0 + length (take i ds) = sym (zero-add (length (take i ds)) ∙ length-take-le i ds (omega arith)) in
    added ∙ ap (λ b. b || (list_any (writes_read t p) rs && (i == q))) h ∙ ap (λ l. feeds_from t 0 (take i ds) p q || (list_any (writes_read t p) l && (i == q))) read
    ∙ ap (λ j. feeds_from t 0 (take i ds) p q || (list_any (writes_read t p) (reads d.value) && (j == q))) size ∙ sym (feeds_push t 0 (take i ds) d p q) ∙ ap (λ l. feeds_from t 0 l p q) (sym front)

-- two tests that hold together
pub same_test : (a b : Bool) → (a ≡ true → b ≡ true) → (b ≡ true → a ≡ true) → a ≡ b
same_test true b f g = sym (f refl)
same_test false true f g = g refl
same_test false false f g = refl

-- a bit that is read, by its number
abbrev pub IsInSpan : ℕ → Span → Type 0
IsInSpan n s = (s.first ≤ n) × (n < s.end)

span_yes : (b : Bool) (x y : Span) → b ≡ true → (if b then x else y) ≡ x
span_yes b x y e = rw e refl

span_no : (b : Bool) (x y : Span) → b ≡ false → (if b then x else y) ≡ y
span_no b x y e = rw e refl

abbrev bits_of_signal : ℕ → ℕ → ℕ → Span
bits_of_signal n low high = record { first = n * WIDTH + min low WIDTH; end = n * WIDTH + min high WIDTH }

abbrev no_bits : Span
no_bits = record { first = 0; end = 0 }

-- which signal's bits those are
in_bits : (n low high s b : ℕ) → b < WIDTH → IsInSpan (s * WIDTH + b) (span_of n low high) → (s ≡ n) × (low ≤ b) × (b < high)
in_bits n low high s b small h =
    elim (cases_lt n SIGNALS) [
      | inl less ↦ (
          let is = span_yes (nat_lt n SIGNALS) (bits_of_signal n low high) no_bits (lt-ltb n SIGNALS less) in
          let P : Span → Type 0 = IsInSpan (s * WIDTH + b) in
          let i : IsInSpan (s * WIDTH + b) (bits_of_signal n low high) = subst P is h in
          let a : n * WIDTH + min low WIDTH ≤ s * WIDTH + b = i.0 in
          let e : s * WIDTH + b < n * WIDTH + min high WIDTH = i.1 in
          let same : s ≡ n = omega arith in
          (same, omega arith, omega arith))
      | inr far ↦ (
          let is = span_no (nat_lt n SIGNALS) (bits_of_signal n low high) no_bits (le-ltb n SIGNALS far) in
          let P : Span → Type 0 = IsInSpan (s * WIDTH + b) in
          let i : IsInSpan (s * WIDTH + b) no_bits = subst P is h in
          absurd (omega (arith, i.1)))
    ]

bits_in : (n low high s b : ℕ) → b < WIDTH → s < SIGNALS → s ≡ n → low ≤ b → b < high → IsInSpan (s * WIDTH + b) (span_of n low high)
bits_in n low high s b small inside same above below =
    let less : n < SIGNALS = omega arith in
    let is = span_yes (nat_lt n SIGNALS) (bits_of_signal n low high) no_bits (lt-ltb n SIGNALS less) in
    let P : Span → Type 0 = IsInSpan (s * WIDTH + b) in
    let a : n * WIDTH + min low WIDTH ≤ s * WIDTH + b = omega arith in
    let e : s * WIDTH + b < n * WIDTH + min high WIDTH = omega arith in
    subst P (sym is) (a, e)

pub read_in : (r : Read) (w : Place) → w.bit < WIDTH → IsInSpan (number_of w) (read_span r) → is_read w r ≡ true
read_in (Whole n) w small h = eq-eqb w.signal n (in_bits n 0 WIDTH w.signal w.bit small h).0
read_in (Bits n low width) w small h =
    let i = in_bits n low (low + bounded width) w.signal w.bit small h in
    and_from (w.signal == n) (nat_le low w.bit && nat_lt w.bit (low + bounded width)) (eq-eqb w.signal n i.0) (and_from (nat_le low w.bit) (nat_lt w.bit (low + bounded width)) (le-leb low w.bit i.1) (lt-ltb w.bit (low + bounded width) i.2))
read_in (Word memory place) w small h = absurd (omega (arith, h.1))
read_in (Ram memory) w small h = absurd (omega (arith, h.1))

pub in_read : (r : Read) (w : Place) → w.bit < WIDTH → w.signal < SIGNALS → is_read w r ≡ true → IsInSpan (number_of w) (read_span r)
in_read (Whole n) w small inside h = bits_in n 0 WIDTH w.signal w.bit small inside (eqb-true w.signal n h) (omega arith) small
in_read (Bits n low width) w small inside h =
    let parts = and_parts (w.signal == n) (nat_le low w.bit && nat_lt w.bit (low + bounded width)) h in
    let places = and_parts (nat_le low w.bit) (nat_lt w.bit (low + bounded width)) parts.1 in
    bits_in n low (low + bounded width) w.signal w.bit small inside (eqb-true w.signal n parts.0) (leb-true low w.bit places.0) (ltb-true w.bit (low + bounded width) places.1)
in_read (Word memory place) w small inside h = absurd (let e : false ≡ true = h in cc)
in_read (Ram memory) w small inside h = absurd (let e : false ≡ true = h in cc)

-- a writer of some bits writes one of them
pub among_some : (t : List (List ℕ)) (b n p : ℕ) → writes_among t b n p ≡ true → (k : ℕ) × (b ≤ k) × (k < b + n) × (has (get_or t k []) p ≡ true)
among_some t b zero p h = absurd (let e : false ≡ true = h in cc)
among_some t b (suc n) p h =
    elim (or_cases (has (get_or t b []) p) (writes_among t (suc b) n p) h) [
      | inl here ↦ (b, omega arith, omega arith, here)
      | inr later ↦ (let ih = among_some t (suc b) n p later in (ih.0, omega (arith, ih.1), omega (arith, ih.2), ih.3))
    ]

pub some_among : (t : List (List ℕ)) (b n p k : ℕ) → b ≤ k → k < b + n → has (get_or t k []) p ≡ true → writes_among t b n p ≡ true
some_among t b zero p k lo hi h = absurd (omega arith)
some_among t b (suc n) p k lo hi h =
    elim (cases_eq b k) [
      | inl e ↦ or_left (has (get_or t b []) p) (writes_among t (suc b) n p) (ap (λ j. has (get_or t j []) p) e ∙ h)
      | inr e ↦ or_right (has (get_or t b []) p) (writes_among t (suc b) n p) (some_among t (suc b) n p k (omega arith) (omega arith) h)
    ]

-- a bit that a driver writes, by its number
abbrev pub Wrote : List Driver → ℕ → ℕ → Type 0
Wrote ds i b = (d : Driver) × (w : Place) × (slice_get ds i ≡ Some d) × (list_any (λ v. number_of v == b) d.target ≡ true)

pub target_feed : (k : ℕ) (target : List Place) (b p : ℕ) → has_feed (map (λ w. feed (number_of w) k) target) b p ≡ true → (k ≡ p) × (list_any (λ w. number_of w == b) target ≡ true)
target_feed k [] b p h = absurd (let e : false ≡ true = h in cc)
target_feed k (w ∷ ws) b p h =
    elim (or_cases ((number_of w == b) && (k == p)) (has_feed (map (λ w. feed (number_of w) k) ws) b p) h) [
      | inl here ↦ (let parts = and_parts (number_of w == b) (k == p) here in (eqb-true k p parts.1, or_left (number_of w == b) (list_any (λ w. number_of w == b) ws) parts.0))
      | inr later ↦ (let ih = target_feed k ws b p later in (ih.0, or_right (number_of w == b) (list_any (λ w. number_of w == b) ws) ih.1))
    ]

pub feed_target : (k : ℕ) (target : List Place) (b : ℕ) → list_any (λ w. number_of w == b) target ≡ true → has_feed (map (λ w. feed (number_of w) k) target) b k ≡ true
feed_target k [] b h = absurd (let e : false ≡ true = h in cc)
feed_target k (w ∷ ws) b h =
    elim (or_cases (number_of w == b) (list_any (λ w. number_of w == b) ws) h) [
      | inl here ↦ or_left ((number_of w == b) && (k == k)) (has_feed (map (λ w. feed (number_of w) k) ws) b k) (and_from (number_of w == b) (k == k) here (eq-eqb k k refl))
      | inr later ↦ or_right ((number_of w == b) && (k == k)) (has_feed (map (λ w. feed (number_of w) k) ws) b k) (feed_target k ws b later)
    ]
