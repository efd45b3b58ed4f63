-- Numbers in a list, how often, and how many aren't; and feeds that wait.
use Rattle.std.proofs.Common.{◌≡◌, ◌≢◌, ℕ, zero, suc, ◌+◌, ◌<◌, ◌≤◌, ◌==◌, Bool, true, false, ◌&&◌, ◌||◌, not, ◌⊎◌, ◌-◌, if◌then◌else◌, List, [], ◌∷◌, ◌++◌, length, take, get_or, refl, sym, ap, ◌∙◌, arith, ne_eqb, eq-eqb, inl, inr, take-suc, add-one, add-zero, zero-add}
use Rattle.std.proofs.lemmas.List.{take_all}
use Rattle.std.proofs.lemmas.Bool.{cases_Bool, cases_lt, eqb-true, eqb-false, or_cases, or_right, and_parts, not-true, false_from_ne_true}
use Rattle.vod_fanout.specs.declared.Feed.{Feed}
use Rattle.vod_fanout.specs.FanOut.{readers_of}
use Rattle.vod_level.specs.Lists.{has, has_feed, is_feed}
use Rattle.vod_level.specs.Peel.{one_if, times, waits, absent}

-- a number behind a list
pub has_push : (xs : List ℕ) (x y : ℕ) → has (xs ++ x ∷ []) y ≡ (has xs y || (x == y))
has_push [] x y = elim (x == y) as (λ b. (b || false) ≡ (false || b)) [ true ↦ refl | false ↦ refl ]
has_push (z ∷ xs) x y = elim (z == y) as (λ b. (b || has (xs ++ x ∷ []) y) ≡ ((b || has xs y) || (x == y))) [ true ↦ refl | false ↦ has_push xs x y ]

pub has_kept : (xs : List ℕ) (x y : ℕ) → has xs y ≡ true → has (xs ++ x ∷ []) y ≡ true
has_kept xs x y h = rw (has_push xs x y, h) refl

pub has_new : (xs : List ℕ) (x : ℕ) → has (xs ++ x ∷ []) x ≡ true
has_new xs x = let e : (x == x) ≡ true = eq-eqb x x refl in rw (has_push xs x x, e) (elim (has xs x) as (λ b. (b || true) ≡ true) [ true ↦ refl | false ↦ refl ])

pub has_cases : (xs : List ℕ) (x y : ℕ) → has (xs ++ x ∷ []) y ≡ true → (has xs y ≡ true) ⊎ (x ≡ y)
has_cases xs x y h = elim (or_cases (has xs y) (x == y) (sym (has_push xs x y) ∙ h)) [ inl a ↦ inl a | inr b ↦ inr (eqb-true x y b) ]

pub taken : (xs : List ℕ) (i d : ℕ) → i < length xs → take (i + 1) xs ≡ take i xs ++ get_or xs i d ∷ []
taken xs i d h = rw (add-one i) (take-suc xs i d h)

-- a list has the numbers of its front
pub has_front : (xs : List ℕ) (i y : ℕ) → has (take i xs) y ≡ true → has xs y ≡ true
has_front xs zero y h = absurd (let e : false ≡ true = h in cc)
has_front [] (suc i) y h = absurd (let e : false ≡ true = h in cc)
has_front (x ∷ xs) (suc i) y h = elim (or_cases (x == y) (has (take i xs) y) h) [
  | inl a ↦ rw a refl
  | inr b ↦ (let e = has_front xs i y b in rw e (elim (x == y) as (λ b. (b || true) ≡ true) [ true ↦ refl | false ↦ refl ]))
]

pub has_at : (xs : List ℕ) (i d : ℕ) → i < length xs → has xs (get_or xs i d) ≡ true
has_at [] i d h = absurd (omega arith)
has_at (x ∷ xs) zero d h = (let e : (x == x) ≡ true = eq-eqb x x refl in rw e refl)
has_at (x ∷ xs) (suc i) d h = (let e = has_at xs i d (omega arith) in rw e (elim (x == get_or xs i d) as (λ b. (b || true) ≡ true) [ true ↦ refl | false ↦ refl ]))

-- the readers of a source, and the feeds from it
pub has_reader : (fs : List Feed) (p q : ℕ) → has (readers_of fs p) q ≡ has_feed fs p q
has_reader [] p q = refl
has_reader (f ∷ fs) p q =
    elim (f.source == p) as (λ b. has (if b then f.reader ∷ readers_of fs p else readers_of fs p) q ≡ ((b && (f.reader == q)) || has_feed fs p q)) [
      | true ↦ ap (λ t. (f.reader == q) || t) (has_reader fs p q)
      | false ↦ has_reader fs p q
    ]

pub absent_nil : (n : ℕ) → absent n [] ≡ n
absent_nil zero = refl
absent_nil (suc n) = let e = absent_nil n in omega arith

or_false : (b : Bool) → (b || false) ≡ b
or_false true = refl
or_false false = refl

-- two lists with the same numbers
pub absent_same : (n : ℕ) (xs ys : List ℕ) → ((m : ℕ) → has xs m ≡ has ys m) → absent n xs ≡ absent n ys
absent_same zero xs ys h = refl
absent_same (suc n) xs ys h = rw (absent_same n xs ys h, h n) refl

absent_far : (n : ℕ) (xs : List ℕ) (x : ℕ) → n ≤ x → absent n (xs ++ x ∷ []) ≡ absent n xs
absent_far zero xs x h = refl
absent_far (suc n) xs x h =
    let ih = absent_far n xs x (omega arith) in
    let other : (x == n) ≡ false = ne_eqb x n (λ e. omega arith) in
    let same : has (xs ++ x ∷ []) n ≡ has xs n = has_push xs x n ∙ ap (λ b. has xs n || b) other ∙ or_false (has xs n) in
    rw (ih, same) refl

-- a number that is new
pub absent_new : (n : ℕ) (xs : List ℕ) (x : ℕ) → x < n → has xs x ≡ false → absent n (xs ++ x ∷ []) + 1 ≡ absent n xs
absent_new zero xs x h new = absurd (omega arith)
absent_new (suc n) xs x h new =
    elim (cases_lt x n) [
      | inl less ↦ (
          let ih = absent_new n xs x less new in
          let other : (x == n) ≡ false = ne_eqb x n (λ e. omega arith) in
          let same : has (xs ++ x ∷ []) n ≡ has xs n = has_push xs x n ∙ ap (λ b. has xs n || b) other ∙ or_false (has xs n) in
          let bits : one_if (not (has (xs ++ x ∷ []) n)) ≡ one_if (not (has xs n)) = ap (λ b. one_if (not b)) same in
          omega arith)
      | inr end ↦ (
          let is : x ≡ n = omega arith in
          let far = absent_far n xs x end in
          let here : one_if (not (has (xs ++ x ∷ []) n)) ≡ 0 = ap (λ b. one_if (not b)) (ap (has (xs ++ x ∷ [])) (sym is) ∙ has_new xs x) in
          let none : one_if (not (has xs n)) ≡ 1 = ap (λ b. one_if (not b)) (ap (has xs) (sym is) ∙ new) in
          omega arith)
    ]

has_old : (xs : List ℕ) (x : ℕ) → has xs x ≡ true → (m : ℕ) → has (xs ++ x ∷ []) m ≡ has xs m
has_old xs x h m =
    elim (cases_Bool (x == m)) [
      | inl e ↦ has_push xs x m ∙ ap (λ b. has xs m || b) e ∙ ap (λ b. b || true) (ap (has xs) (sym (eqb-true x m e)) ∙ h) ∙ sym (ap (has xs) (sym (eqb-true x m e)) ∙ h)
      | inr e ↦ has_push xs x m ∙ ap (λ b. has xs m || b) e ∙ or_false (has xs m)
    ]

-- one number more makes at most one absent number less
pub absent_push : (n : ℕ) (xs : List ℕ) (x : ℕ) → absent n xs ≤ absent n (xs ++ x ∷ []) + 1
absent_push n xs x =
    elim (cases_Bool (has xs x)) [
      | inl old ↦ (let e = absent_same n (xs ++ x ∷ []) xs (has_old xs x old) in omega arith)
      | inr new ↦ elim (cases_lt x n) [
        | inl less ↦ (let e = absent_new n xs x less new in omega arith)
        | inr far ↦ (let e = absent_far n xs x far in omega arith)
      ]
    ]

-- so many numbers of a list leave at least so many absent
pub absent_front : (k : ℕ) (n : ℕ) (xs : List ℕ) (i : ℕ) → i + k ≤ length xs → i + absent n (take i xs) ≤ i + k + absent n (take (i + k) xs)
absent_front zero n xs i h = (let e = ap (λ j. absent n (take j xs)) (add-zero i) in omega arith)
absent_front (suc k) n xs i h =
    let ih = absent_front k n xs i (omega arith) in
    let more = absent_push n (take (i + k) xs) (get_or xs (i + k) 0) in
    let front : take (i + suc k) xs ≡ take (i + k) xs ++ get_or xs (i + k) 0 ∷ [] = ap (λ j. take j xs) (let e : i + suc k ≡ i + k + 1 = omega arith in e) ∙ taken xs (i + k) 0 (omega arith) in
    let same = ap (absent n) front in
    omega arith

-- a list with room for each number has each once
pub is_new : (n : ℕ) (xs : List ℕ) (i d : ℕ) → i < length xs → length xs + absent n xs ≡ n → has (take i xs) (get_or xs i d) ≡ false
is_new n xs i d h room = false_from_ne_true (has (take i xs) (get_or xs i d)) (λ old.
    let low = absent_front i n xs 0 (omega arith) in
    let nil = absent_nil n in
    let zero_i : absent n (take (0 + i) xs) ≡ absent n (take i xs) = ap (λ j. absent n (take j xs)) (zero-add i) in
    let same : absent n (take (i + 1) xs) ≡ absent n (take i xs) = ap (absent n) (taken xs i d h) ∙ absent_same n (take i xs ++ get_or xs i d ∷ []) (take i xs) (has_old (take i xs) (get_or xs i d) old) in
    let rest = absent_front (length xs - (i + 1)) n xs (i + 1) (omega arith) in
    let all : absent n (take (i + 1 + (length xs - (i + 1))) xs) ≡ absent n xs = ap (λ j. absent n (take j xs)) (let e : i + 1 + (length xs - (i + 1)) ≡ length xs = omega arith in e) ∙ ap (absent n) (take_all (length xs) xs (omega arith)) in
    omega arith)

eqb_turned : (a b : ℕ) → (a == b) ≡ (b == a)
eqb_turned a b =
    elim (cases_Bool (b == a)) [
      | inl e ↦ eq-eqb a b (sym (eqb-true b a e)) ∙ sym e
      | inr e ↦ ne_eqb a b (λ q. eqb-false b a e (sym q)) ∙ sym e
    ]

-- how often a number is in a list
pub times_some : (xs : List ℕ) (x : ℕ) → times xs x ≢ 0 → has xs x ≡ true
times_some [] x h = absurd (h refl)
times_some (y ∷ ys) x h =
    elim (cases_Bool (y == x)) [
      | inl e ↦ rw e refl
      | inr e ↦ rw e (times_some ys x (λ q. h (rw e (let z : 0 + times ys x ≡ 0 = omega arith in z))))
    ]

pub times_none : (xs : List ℕ) (x : ℕ) → times xs x ≡ 0 → has xs x ≡ false
times_none [] x h = refl
times_none (y ∷ ys) x h =
    elim (cases_Bool (y == x)) [
      | inl e ↦ absurd (let one : one_if (y == x) ≡ 1 = ap one_if e in omega arith)
      | inr e ↦ rw e (times_none ys x (omega arith))
    ]

-- a feed that waits, if it is from a driver that is taken away now
waits_bit : (reader same old : Bool) → (same ≡ true → old ≡ false) → one_if (reader && not old) ≡ one_if (reader && not (old || same)) + one_if (same && reader)
waits_bit true true true h = absurd (let e = h refl in cc)
waits_bit true true false h = refl
waits_bit true false true h = refl
waits_bit true false false h = refl
waits_bit false true true h = refl
waits_bit false true false h = refl
waits_bit false false true h = refl
waits_bit false false false h = refl

times_if : (b : Bool) (x q : ℕ) (xs : List ℕ) → times (if b then x ∷ xs else xs) q ≡ one_if (b && (x == q)) + times xs q
times_if true x q xs = refl
times_if false x q xs = sym (zero-add (times xs q))

-- taking away one more driver takes away its feeds
pub waits_push : (done : List ℕ) (p : ℕ) (fs : List Feed) (q : ℕ) → has done p ≡ false → waits done fs q ≡ waits (done ++ p ∷ []) fs q + times (readers_of fs p) q
waits_push done p [] q new = refl
waits_push done p (f ∷ fs) q new =
    let ih = waits_push done p fs q new in
    let now = waits_bit (f.reader == q) (f.source == p) (has done f.source) (λ e. ap (has done) (eqb-true f.source p e) ∙ new) in
    let turned : (p == f.source) ≡ (f.source == p) = eqb_turned p f.source in
    let there : has (done ++ p ∷ []) f.source ≡ (has done f.source || (f.source == p)) = has_push done p f.source ∙ ap (λ b. has done f.source || b) turned in
    let held : one_if ((f.reader == q) && not (has (done ++ p ∷ []) f.source)) ≡ one_if ((f.reader == q) && not (has done f.source || (f.source == p))) =
    ap (λ b. one_if ((f.reader == q) && not b)) there in
    let here = times_if (f.source == p) f.reader q (readers_of fs p) in
    omega arith

-- who waits for none has all its feeders taken away, and else there is one that isn't
waits_zero_bit : (reader old : Bool) → one_if (reader && not old) ≡ 0 → reader ≡ true → old ≡ true
waits_zero_bit true true h e = refl
waits_zero_bit true false h e = absurd (omega arith)
waits_zero_bit false old h e = absurd (let q : false ≡ true = e in cc)

pub waits_zero : (done : List ℕ) (fs : List Feed) (p q : ℕ) → waits done fs q ≡ 0 → has_feed fs p q ≡ true → has done p ≡ true
waits_zero done [] p q h e = absurd (let b : false ≡ true = e in cc)
waits_zero done (f ∷ fs) p q h e =
    elim (or_cases ((f.source == p) && (f.reader == q)) (has_feed fs p q) e) [
      | inl here ↦ (
          let parts = and_parts (f.source == p) (f.reader == q) here in
          ap (has done) (sym (eqb-true f.source p parts.0)) ∙ waits_zero_bit (f.reader == q) (has done f.source) (omega arith) parts.1)
      | inr later ↦ waits_zero done fs p q (omega arith) later
    ]

pub waits_some : (done : List ℕ) (fs : List Feed) (q : ℕ) → waits done fs q ≢ 0 → (p : ℕ) × (has_feed fs p q ≡ true) × (has done p ≡ false)
waits_some done [] q h = absurd (h refl)
waits_some done (f ∷ fs) q h =
    elim (cases_Bool ((f.reader == q) && not (has done f.source))) [
      | inl e ↦ (
          let parts = and_parts (f.reader == q) (not (has done f.source)) e in
          let same : (f.source == f.source) ≡ true = eq-eqb f.source f.source refl in
          let here : has_feed (f ∷ fs) f.source q ≡ true = rw (same, parts.0) refl in
          (f.source, here, not-true (has done f.source) parts.1))
      | inr e ↦ (
          let none : one_if ((f.reader == q) && not (has done f.source)) ≡ 0 = ap one_if e in
          let rest = waits_some done fs q (λ z. h (omega arith)) in
          (rest.0, or_right (is_feed rest.0 q f) (has_feed fs rest.0 q) rest.1, rest.2))
    ]
