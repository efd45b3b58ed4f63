-- From a driver to the least nearer one, again and again.
use Rattle.std.proofs.Common.{◌≡◌, ◌≢◌, ℕ, suc, ◌+◌, ◌-◌, ◌^◌, ◌<◌, ◌≤◌, ◌==◌, ◌⊎◌, min, Bool, true, false, ◌&&◌, ◌||◌, if◌then◌else◌, List, [], ◌∷◌, ◌++◌, length, take, get_or, All, refl, sym, subst, ap, ◌∙◌, arith, inl, inr, append_assoc, append-nil, eq-eqb}
use Rattle.std.proofs.lemmas.List.{take_all}
use Rattle.std.proofs.lemmas.List.Elements.{All-nil, All-cons, All-head, All-tail}
use Rattle.std.proofs.lemmas.Bool.{both_ways, cases_Bool, cases_lt, eqb-true}
use Rattle.vod_fanout.specs.declared.Feed.{Feed}
use Rattle.vod_fanout.specs.FanOut.{readers_of}
use Rattle.vod_level.specs.Lists.{has, has_feed, feed}
use Rattle.vod_level.specs.Steps.{turned_feeds, IsSteps, IsNearest, IsWalk, IsRound}
use Rattle.vod_level.proofs.Counts.{has_kept, has_new, has_cases, taken, has_reader}
use Rattle.vod_level.proofs.Searching.{has_index}

-- the nearest among some of the drivers, or none
pub record Nearest (drivers steps : List ℕ) (i count least : ℕ) : Type 0 where
  pub found : (least ≡ 2 ^ 32 - 1) ⊎ ((has (take i drivers) least ≡ true) × (get_or steps least 0 ≡ count))
  pub below : (q : ℕ) → has (take i drivers) q ≡ true → get_or steps q 0 ≡ count → least ≤ q

min_cases : (a b : ℕ) → (min a b ≡ a) ⊎ (min a b ≡ b)
min_cases a b = elim (cases_lt a b) [ inl less ↦ inl (omega arith) | inr ge ↦ inr (omega arith) ]

not_at : (a b : ℕ) → (a == b) ≡ false → a ≡ b → ⊥
not_at a b f e = both_ways (a == b) f (eq-eqb a b e)

pub nearest_step : (drivers steps : List ℕ) (i count least d new : ℕ) → i < length drivers → d ≡ get_or drivers i 0 → new ≡ min least (if get_or steps d 0 == count then d else 2 ^ 32 - 1) → Nearest drivers steps i count least → Nearest drivers steps (i + 1) count new
nearest_step drivers steps i count least d new lt is made s =
    let front : take (i + 1) drivers ≡ take i drivers ++ d ∷ [] = taken drivers i 0 lt ∙ ap (λ x. take i drivers ++ x ∷ []) (sym is) in
    let old_found : new ≡ least → (new ≡ 2 ^ 32 - 1) ⊎ ((has (take (i + 1) drivers) new ≡ true) × (get_or steps new 0 ≡ count)) = λ e. elim s.found [
      | inl none ↦ inl (e ∙ none)
      | inr some ↦ inr (ap (λ l. has l new) front ∙ has_kept (take i drivers) d new (ap (has (take i drivers)) e ∙ some.0), ap (λ k. get_or steps k 0) e ∙ some.1)
    ] in
    let low : new ≤ least = (let m = min_cases least (if get_or steps d 0 == count then d else 2 ^ 32 - 1) in omega arith) in
    elim (cases_Bool (get_or steps d 0 == count)) [
      | inl yes_it ↦ (
          let at : get_or steps d 0 ≡ count = eqb-true (get_or steps d 0) count yes_it in
          let is_min : new ≡ min least d = made ∙ ap (λ b. min least (if b then d else 2 ^ 32 - 1)) yes_it in
          record {
            found = elim (min_cases least d) [
              | inl e ↦ old_found (is_min ∙ e)
              | inr e ↦ (let n : new ≡ d = is_min ∙ e in inr (ap (λ l. has l new) front ∙ ap (has (take i drivers ++ d ∷ [])) n ∙ has_new (take i drivers) d, ap (λ k. get_or steps k 0) n ∙ at))
            ];
            below = λ q h e. elim (has_cases (take i drivers) d q (ap (λ l. has l q) (sym front) ∙ h)) [
              | inl old ↦ (let b = s.below q old e in omega arith)
              | inr same ↦ omega arith
            ];
          })
      | inr other ↦ (
          let is_min : new ≡ min least (2 ^ 32 - 1) = made ∙ ap (λ b. min least (if b then d else 2 ^ 32 - 1)) other in
          record {
            found = elim (min_cases least (2 ^ 32 - 1)) [
              | inl e ↦ old_found (is_min ∙ e)
              | inr e ↦ inl (is_min ∙ e)
            ];
            below = λ q h e. elim (has_cases (take i drivers) d q (ap (λ l. has l q) (sym front) ∙ h)) [
              | inl old ↦ (let b = s.below q old e in omega arith)
              | inr same ↦ absurd (not_at (get_or steps d 0) count other (ap (λ k. get_or steps k 0) same ∙ e))
            ];
          })
    ]

pub nearest_end : (drivers steps : List ℕ) (i count least q : ℕ) → length drivers ≤ i → All (λ q. q < length steps) drivers → length steps < 2 ^ 25 → has drivers q ≡ true → get_or steps q 0 ≡ count → Nearest drivers steps i count least → IsNearest drivers steps count least
nearest_end drivers steps i count least q end inside few there at s =
    let all = take_all i drivers end in
    let index = has_index drivers q there in
    let bound : get_or drivers index.0 0 < length steps = inside index.0 0 index.1 in
    let low = s.below q (ap (λ l. has l q) all ∙ there) at in
    elim s.found [
      | inl none ↦ absurd (omega (arith, index.2))
      | inr some ↦ record { among = ap (λ l. has l least) (sym all) ∙ some.0; at = some.1; below = λ p h e. s.below p (ap (λ l. has l p) all ∙ h) e }
    ]

-- a feed that is turned
and_turned : (a b : Bool) → (a && b) ≡ (b && a)
and_turned true true = refl
and_turned true false = refl
and_turned false true = refl
and_turned false false = refl

pub has_turned : (fs : List Feed) (p q : ℕ) → has_feed (turned_feeds fs) q p ≡ has_feed fs p q
has_turned [] p q = refl
has_turned (f ∷ fs) p q = ap (λ b. b || has_feed (turned_feeds fs) q p) (and_turned (f.reader == q) (f.source == p)) ∙ ap (λ b. ((f.source == p) && (f.reader == q)) || b) (has_turned fs p q)

pub turned_source : (fs : List Feed) (n : ℕ) → All (λ f. f.reader < n) fs → All (λ f. f.source < n) (turned_feeds fs)
turned_source [] n all = All-nil (λ f. f.source < n)
turned_source (f ∷ fs) n all = All-cons (λ f. f.source < n) (feed f.reader f.source) (turned_feeds fs) (All-head (λ f. f.reader < n) f fs all) (turned_source fs n (All-tail (λ f. f.reader < n) f fs all))

pub turned_reader : (fs : List Feed) (n : ℕ) → All (λ f. f.source < n) fs → All (λ f. f.reader < n) (turned_feeds fs)
turned_reader [] n all = All-nil (λ f. f.reader < n)
turned_reader (f ∷ fs) n all = All-cons (λ f. f.reader < n) (feed f.reader f.source) (turned_feeds fs) (All-head (λ f. f.source < n) f fs all) (turned_reader fs n (All-tail (λ f. f.source < n) f fs all))

pub turned_size : (fs : List Feed) → length (turned_feeds fs) ≡ length fs
turned_size [] = refl
turned_size (f ∷ fs) = ap suc (turned_size fs)

-- a walk so far
pub record Walking (fs : List Feed) (steps : List ℕ) (goal driver left : ℕ) (cycle : List ℕ) : Type 0 where
  pub left_is : left ≡ get_or steps driver 0
  pub some : 1 ≤ left
  pub tail : List ℕ
  pub begins : cycle ≡ goal ∷ tail
  pub goes_on : (rest : List ℕ) → IsWalk (has_feed fs) steps driver rest → IsWalk (has_feed fs) steps goal (tail ++ rest)

pub walk_start : (fs : List Feed) (steps : List ℕ) (goal left : ℕ) (cycle : List ℕ) → left ≡ get_or steps goal 0 → get_or steps goal 0 ≢ 0 → cycle ≡ goal ∷ [] → Walking fs steps goal goal left cycle
walk_start fs steps goal left cycle is h e = record { left_is = is; some = (let k : left ≢ 0 = λ z. h (sym is ∙ z) in omega arith); tail = []; begins = e; goes_on = λ rest w. w }

few : (left : ℕ) → left ≡ 0 → 1 < left → ⊥
few left z more = omega arith

few_less : (left : ℕ) → left - 1 ≡ 0 → 1 < left → ⊥
few_less left z more = omega arith

-- there is a nearer driver
pub walk_nearer : (fs : List Feed) (n goal : ℕ) (steps : List ℕ) (driver left : ℕ) → IsSteps (turned_feeds fs) n goal steps → left ≡ get_or steps driver 0 → 1 < left → (q : ℕ) × (has (readers_of fs driver) q ≡ true) × (get_or steps q 0 ≡ left - 1)
walk_nearer fs n goal steps driver left s is more =
    elim (s.leads driver (λ z. few left (is ∙ z) more)) [
      | inl one ↦ absurd (let o = one.0 in omega arith)
      | inr next ↦ (let e = next.3 in (next.0, has_reader fs driver next.0 ∙ sym (has_turned fs driver next.0) ∙ next.1, omega arith))
    ]

pub walk_step : (fs : List Feed) (n goal : ℕ) (steps : List ℕ) (driver left next : ℕ) (cycle cycle2 : List ℕ) → 1 < left → IsNearest (readers_of fs driver) steps (left - 1) next → cycle2 ≡ cycle ++ next ∷ [] → Walking fs steps goal driver left cycle
    → Walking fs steps goal next (left - 1) cycle2
walk_step fs n goal steps driver left next cycle cycle2 more near added w =
    let is = w.left_is in
    let at = near.at in
    record {
      left_is = sym near.at;
      some = omega arith;
      tail = w.tail ++ next ∷ [];
      begins = added ∙ ap (λ l. l ++ next ∷ []) w.begins;
      goes_on = λ rest v. (
          let step : get_or steps driver 0 ≡ get_or steps next 0 + 1 = omega arith in
          let longer : IsWalk (has_feed fs) steps driver (next ∷ rest) = (
            sym (has_reader fs driver next) ∙ near.among,
            (λ z. few_less left (sym at ∙ z) more),
            step,
            (λ q e same. near.below q (has_reader fs driver q ∙ e) (same ∙ at)),
            v,
          ) in
          let P : List ℕ → Type 0 = IsWalk (has_feed fs) steps goal in
          subst P (sym (append_assoc w.tail (next ∷ []) rest)) (w.goes_on (next ∷ rest) longer));
    }

pub walk_end : (fs : List Feed) (steps : List ℕ) (goal driver left : ℕ) (cycle : List ℕ) → left ≤ 1 → Walking fs steps goal driver left cycle → IsRound (has_feed fs) steps goal cycle
walk_end fs steps goal driver left cycle less w =
    let is = w.left_is in
    let some = w.some in
    let one : get_or steps driver 0 ≡ 1 = omega arith in
    let P : List ℕ → Type 0 = IsWalk (has_feed fs) steps goal in
    let Q : List ℕ → Type 0 = IsRound (has_feed fs) steps goal in
    subst Q (sym w.begins) (refl, subst P (append-nil w.tail) (w.goes_on [] one))
