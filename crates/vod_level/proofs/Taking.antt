-- One driver more is taken away.
use Rattle.std.proofs.Common.{◌≡◌, ◌≢◌, ℕ, zero, suc, ◌+◌, ◌<◌, ◌≤◌, ◌==◌, ◌⊎◌, Bool, true, false, ◌&&◌, if◌then◌else◌, max, List, [], ◌∷◌, ◌++◌, length, take, drop, replicate, get_or, All, refl, sym, subst, ap, ◌∙◌, arith, inl, inr, zero-add}
use Rattle.std.proofs.Math.Seq.{take-append_seam}
use Rattle.std.proofs.lemmas.List.{length-take, take_all}
use Rattle.std.proofs.lemmas.List.Elements.{All-nil, All-cons, All-head, All-tail}
use Rattle.std.proofs.lemmas.Bool.{both_ways, cases_Bool, cases_lt, cases_eq, or_cases, and_parts, eqb-true, false_from_ne_true}
use Rattle.vod_fanout.specs.declared.Feed.{Feed}
use Rattle.vod_fanout.specs.FanOut.{readers_of, fan_out}
use Rattle.vod_fanout.proofs.Lists.{each_at}
use Rattle.vod_level.specs.Lists.{has, has_feed}
use Rattle.vod_level.specs.Peel.{times, waits, absent, raised, IsReady, Peeling, IsPeeled}
use Rattle.vod_level.proofs.Counts.{has_kept, has_new, has_cases, has_front, has_at, has_reader, taken, is_new, times_some, waits_push, waits_zero, waits_some}

-- a feed is between numbers below n
pub feed_source : (fs : List Feed) (n p q : ℕ) → All (λ f. f.source < n) fs → has_feed fs p q ≡ true → p < n
feed_source [] n p q all h = absurd (let e : false ≡ true = h in cc)
feed_source (f ∷ fs) n p q all h =
    elim (or_cases ((f.source == p) && (f.reader == q)) (has_feed fs p q) h) [
      | inl here ↦ (let head = All-head (λ f. f.source < n) f fs all in let e = eqb-true f.source p (and_parts (f.source == p) (f.reader == q) here).0 in omega arith)
      | inr later ↦ feed_source fs n p q (All-tail (λ f. f.source < n) f fs all) later
    ]

pub feed_reader : (fs : List Feed) (n p q : ℕ) → All (λ f. f.reader < n) fs → has_feed fs p q ≡ true → q < n
feed_reader [] n p q all h = absurd (let e : false ≡ true = h in cc)
feed_reader (f ∷ fs) n p q all h =
    elim (or_cases ((f.source == p) && (f.reader == q)) (has_feed fs p q) h) [
      | inl here ↦ (let head = All-head (λ f. f.reader < n) f fs all in let e = eqb-true f.reader q (and_parts (f.source == p) (f.reader == q) here).1 in omega arith)
      | inr later ↦ feed_reader fs n p q (All-tail (λ f. f.reader < n) f fs all) later
    ]

-- the readers of a source
readers_if : (b : Bool) (n r : ℕ) (rs : List ℕ) → r < n → All (λ q. q < n) rs → All (λ q. q < n) (if b then r ∷ rs else rs)
readers_if true n r rs h all = All-cons (λ q. q < n) r rs h all
readers_if false n r rs h all = all

pub readers_inside : (fs : List Feed) (n p : ℕ) → All (λ f. f.reader < n) fs → All (λ q. q < n) (readers_of fs p)
readers_inside [] n p all = All-nil (λ q. q < n)
readers_inside (f ∷ fs) n p all = readers_if (f.source == p) n f.reader (readers_of fs p) (All-head (λ f. f.reader < n) f fs all) (readers_inside fs n p (All-tail (λ f. f.reader < n) f fs all))

pub readers_at : (fs : List Feed) (n p : ℕ) (table : List (List ℕ)) (rs : List ℕ) → table ≡ fan_out n fs → p < n → rs ≡ get_or table p [] → rs ≡ readers_of fs p
readers_at fs n p table rs made inside is = is ∙ ap (λ t. get_or t p []) made ∙ each_at (readers_of fs) 0 n p [] inside ∙ ap (readers_of fs) (zero-add p)

pub get_or_past : (xs : List ℕ) (i : ℕ) → length xs ≤ i → get_or xs i 0 ≡ 0
get_or_past [] i h = refl
get_or_past (x ∷ xs) zero h = absurd (omega arith)
get_or_past (x ∷ xs) (suc i) h = get_or_past xs i (omega arith)

-- who is ready has no feeder that isn't taken away
pub feeds_zero : (edges : List Feed) (n next : ℕ) (ready levels left : List ℕ) → Peeling edges n next ready levels left → (p q : ℕ) → has ready q ≡ true → has_feed edges p q ≡ true → has (take next ready) p ≡ true
feeds_zero edges n next ready levels left s p q h e =
    let o = s.is_ready.only q h in
    let w = s.waiting q (omega (arith, o.0, s.left_size)) in
    waits_zero (take next ready) edges p q (omega (arith, o.1)) e

-- each reader of the next one has a feed left
pub fed : (edges : List Feed) (n next : ℕ) (ready levels left : List ℕ) → All (λ f. f.reader < n) edges → next < length ready → Peeling edges n next ready levels left
    → (q : ℕ) → times (readers_of edges (get_or ready next 0)) q ≤ get_or left q 0
fed edges n next ready levels left inside lt s q =
    let p = get_or ready next 0 in
    elim (cases_lt q n) [
      | inl less ↦ (
          let room : length ready + absent n ready ≡ n = omega (arith, s.is_ready.room, s.left_size, ap (λ m. absent m ready) s.left_size) in
          let new = is_new n ready next 0 lt room in
          let e = waits_push (take next ready) p edges q new in
          let w = s.waiting q less in
          omega arith)
      | inr more ↦ elim (cases_eq (times (readers_of edges p) q) 0) [
        | inl none ↦ omega arith
        | inr some ↦ (let h = feed_reader edges n p q inside (sym (has_reader edges p q) ∙ times_some (readers_of edges p) q some) in absurd (omega arith))
      ]
    ]

raised_at : (b : Bool) (level old : ℕ) → (old ≤ raised b level old) × (raised b level old ≤ max old (level + 1))
raised_at true level old = (omega arith, omega arith)
raised_at false level old = (omega arith, omega arith)

pub take_front : (xs ys : List ℕ) (i : ℕ) → i ≤ length xs → take (length xs) ys ≡ xs → take i ys ≡ take i xs
take_front xs ys zero h e = refl
take_front [] ys (suc i) h e = absurd (omega arith)
take_front (x ∷ xs) [] (suc i) h e = absurd (let q : [] ≡ x ∷ xs = e in cc)
take_front (x ∷ xs) (y ∷ ys) (suc i) h e =
    let head : y ≡ x = (let q : y ∷ take (length xs) ys ≡ x ∷ xs = e in cc) in
    let tail : take (length xs) ys ≡ xs = (let q : y ∷ take (length xs) ys ≡ x ∷ xs = e in cc) in
    let ih = take_front xs ys i (omega arith) tail in
    cc

pub peel_step : (edges : List Feed) (n next : ℕ) (ready levels left ready2 levels2 left2 : List ℕ) → All (λ f. f.source < n) edges → All (λ f. f.reader < n) edges → next < length ready
    → Peeling edges n next ready levels left
    → length levels2 ≡ length levels → length left2 ≡ length left
    → ((q : ℕ) → q < length levels → get_or levels2 q 0 ≡ raised (has (readers_of edges (get_or ready next 0)) q) (get_or levels (get_or ready next 0) 0) (get_or levels q 0))
    → ((q : ℕ) → get_or left2 q 0 + times (readers_of edges (get_or ready next 0)) q ≡ get_or left q 0)
    → IsReady left2 ready2 → take (length ready) ready2 ≡ ready → Peeling edges n (next + 1) ready2 levels2 left2
peel_step edges n next ready levels left ready2 levels2 left2 sources readers lt s long_levels long_left lifted less is_ready2 front =
    let p = get_or ready next 0 in
    let done = take next ready in
    let rs = readers_of edges p in
    let room : length ready + absent n ready ≡ n = omega (arith, s.is_ready.room, s.left_size, ap (λ m. absent m ready) s.left_size) in
    let new : has done p ≡ false = is_new n ready next 0 lt room in
    let done2 : take (next + 1) ready2 ≡ done ++ p ∷ [] = take_front ready ready2 (next + 1) (omega arith) front ∙ taken ready next 0 lt in
    let now : (r : ℕ) → has (take (next + 1) ready2) r ≡ has (done ++ p ∷ []) r = λ r. ap (λ l. has l r) done2 in
    let p_ready : has ready p ≡ true = has_at ready next 0 lt in
    let quiet : (r : ℕ) → has ready r ≡ true → has rs r ≡ false = λ r h. false_from_ne_true (has rs r) (λ e. both_ways (has done p) new (feeds_zero edges n next ready levels left s p r h (sym (has_reader edges p r) ∙ e))) in
    let inside : (r : ℕ) → has ready r ≡ true → r < length levels = λ r h. (let o = s.is_ready.only r h in omega (arith, o.0, s.left_size, s.levels_size)) in
    let same : (r : ℕ) → has ready r ≡ true → get_or levels2 r 0 ≡ get_or levels r 0 = λ r h. lifted r (inside r h) ∙ ap (λ b. raised b (get_or levels p 0) (get_or levels r 0)) (quiet r h) in
    let more : (q : ℕ) → q < n → (get_or levels q 0 ≤ get_or levels2 q 0) × (get_or levels2 q 0 ≤ max (get_or levels q 0) (get_or levels p 0 + 1)) = λ q h. (
    let e = lifted q (omega (arith, s.levels_size)) in
    let r = raised_at (has rs q) (get_or levels p 0) (get_or levels q 0) in
    (omega (arith, r.0), omega (arith, r.1))) in
    let old_least : (q : ℕ) → get_or levels2 q 0 ≡ get_or levels q 0 → (get_or levels2 q 0 ≡ 0) ⊎ ((p : ℕ) × (has_feed edges p q ≡ true) × (has (take (next + 1) ready2) p ≡ true) × (get_or levels2 q 0 ≡ get_or levels2 p 0 + 1)) = λ q e. elim (s.least q) [
      | inl none ↦ inl (e ∙ none)
      | inr some ↦ inr (some.0, some.1, now some.0 ∙ has_kept done p some.0 some.2, e ∙ some.3 ∙ ap (λ v. v + 1) (sym (same some.0 (has_front ready next some.0 some.2))))
    ] in
    record {
      levels_size = long_levels ∙ s.levels_size;
      left_size = long_left ∙ s.left_size;
      within = (let size = ap length front in let cut = length-take (length ready) ready2 in omega arith);
      waiting = λ q h. (
          let w = s.waiting q h in
          let e = waits_push done p edges q new in
          let l = less q in
          let same : waits (take (next + 1) ready2) edges q ≡ waits (done ++ p ∷ []) edges q = ap (λ d. waits d edges q) done2 in
          omega arith);
      is_ready = is_ready2;
      low = λ q. elim (cases_lt q n) [
        | inl h ↦ (let m = more q h in let a = s.low q in let b = s.low p in omega (arith, m.1))
        | inr h ↦ (let e = get_or_past levels2 q (omega (arith, s.levels_size)) in omega arith)
      ];
      rises = λ r q e h. (
          let below = feed_reader edges n r q readers e in
          let m = more q below in
          elim (has_cases done p r (sym (now r) ∙ h)) [
            | inl old ↦ (let was = s.rises r q e old in let v = same r (has_front ready next r old) in omega (arith, m.0))
            | inr is ↦ (
                let reads : has rs q ≡ true = has_reader edges p q ∙ ap (λ k. has_feed edges k q) is ∙ e in
                let l = lifted q (omega (arith, s.levels_size)) ∙ ap (λ b. raised b (get_or levels p 0) (get_or levels q 0)) reads in
                let v = same p p_ready in
                let at : get_or levels2 r 0 ≡ get_or levels2 p 0 = ap (λ k. get_or levels2 k 0) (sym is) in
                omega arith)
          ]);
      least = λ q. elim (cases_lt q n) [
        | inl h ↦ elim (cases_Bool (has rs q)) [
          | inl reads ↦ (
              let l = lifted q (omega (arith, s.levels_size)) ∙ ap (λ b. raised b (get_or levels p 0) (get_or levels q 0)) reads in
              elim (cases_lt (get_or levels q 0) (get_or levels p 0 + 1)) [
                | inl up ↦ inr (p, sym (has_reader edges p q) ∙ reads, now p ∙ has_new done p, (let v = same p p_ready in let t : get_or levels2 q 0 ≡ get_or levels2 p 0 + 1 = omega arith in t))
                | inr stays ↦ old_least q (omega arith)
              ])
          | inr other ↦ old_least q (lifted q (omega (arith, s.levels_size)) ∙ ap (λ b. raised b (get_or levels p 0) (get_or levels q 0)) other)
        ]
        | inr h ↦ inl (get_or_past levels2 q (omega (arith, s.levels_size)))
      ];
    }

-- none is taken away at first
pub peel_start : (edges : List Feed) (n : ℕ) (ready levels left : List ℕ) → length levels ≡ n → length left ≡ n → ((q : ℕ) → get_or levels q 0 ≡ 0) → ((q : ℕ) → q < n → get_or left q 0 ≡ waits [] edges q) → IsReady left ready
    → Peeling edges n 0 ready levels left
peel_start edges n ready levels left a b zeros held r = record {
  levels_size = a;
  left_size = b;
  within = omega arith;
  waiting = held;
  is_ready = r;
  low = λ q. (let z = zeros q in omega arith);
  rises = λ p q e h. absurd (let f : false ≡ true = h in cc);
  least = λ q. inl (zeros q);
}

stuck_below : (left : List ℕ) (q n : ℕ) → length left ≡ n → get_or left q 0 ≢ 0 → q < n
stuck_below left q n size h = elim (cases_lt q n) [ inl less ↦ less | inr far ↦ absurd (h (get_or_past left q (omega arith))) ]

-- all that are ready are taken away in the end
pub peel_end : (edges : List Feed) (n next : ℕ) (ready levels left : List ℕ) → All (λ f. f.source < n) edges → All (λ f. f.reader < n) edges → length ready ≤ next → Peeling edges n next ready levels left → IsPeeled edges n levels left
peel_end edges n next ready levels left sources readers end s =
    let done : take next ready ≡ ready = take_all next ready end in
    let most : next ≤ n = omega (arith, s.is_ready.room, s.left_size, s.within) in
    record {
      levels_size = s.levels_size;
      left_size = s.left_size;
      low = λ q. (let l = s.low q in omega arith);
      behind = λ p q e h. (
          let below = feed_reader edges n p q readers e in
          let r = s.is_ready.all q (omega (arith, s.left_size)) h in
          let d = feeds_zero edges n next ready levels left s p q r e in
          ((s.is_ready.only p (has_front ready next p d)).1, s.rises p q e d));
      least = λ q below h. elim (s.least q) [ inl none ↦ inl none | inr some ↦ inr (some.0, some.1, some.3) ];
      stuck = λ q h. (
          let below : q < n = stuck_below left q n s.left_size h in
          let w = waits_some (take next ready) edges q (λ z. h (s.waiting q below ∙ z)) in (
            w.0,
            w.1,
            λ z. (
                let r = s.is_ready.all w.0 (omega (arith, feed_source edges n w.0 q sources w.1, s.left_size)) z in
                both_ways (has (take next ready) w.0) w.2 (ap (λ l. has l w.0) done ∙ r)),
          ));
    }

-- the next one is a driver
pub next_below : (edges : List Feed) (n next : ℕ) (ready levels left : List ℕ) → next < length ready → Peeling edges n next ready levels left → get_or ready next 0 < n
next_below edges n next ready levels left lt s = (let o = s.is_ready.only (get_or ready next 0) (has_at ready next 0 lt) in omega (arith, o.0, s.left_size))

-- what a vector holds once a slice of all of it was written
pub written : (new old : List ℕ) (n : ℕ) → n ≡ length new → take n (new ++ drop (length new) old) ≡ new
written new old n e = ap (λ k. take k (new ++ drop (length new) old)) e ∙ take-append_seam new (drop (length new) old)

pub get_or_zeros : (n i : ℕ) (xs : List ℕ) → xs ≡ replicate n 0 → get_or xs i 0 ≡ 0
get_or_zeros zero i xs e = ap (λ l. get_or l i 0) e
get_or_zeros (suc n) zero xs e = ap (λ l. get_or l 0 0) e
get_or_zeros (suc n) (suc i) xs e = ap (λ l. get_or l (suc i) 0) e ∙ get_or_zeros n i (replicate n 0) refl

pub inside_all : (edges : List Feed) (n p : ℕ) (rs : List ℕ) (m : ℕ) → All (λ f. f.reader < n) edges → rs ≡ readers_of edges p → m ≡ n → All (λ q. q < m) rs
inside_all edges n p rs m readers e size = rw (e, size) (readers_inside edges n p readers)

pub peel_next : (edges : List Feed) (n next : ℕ) (ready levels left : List ℕ) (driver level : ℕ) (its its2 held_levels held_left levels2 left2 ready2 : List ℕ) (a b : ℕ)
    → All (λ f. f.source < n) edges → All (λ f. f.reader < n) edges → next < length ready → Peeling edges n next ready levels left
    → driver ≡ get_or ready next 0 → level ≡ get_or levels driver 0 → its ≡ readers_of edges driver → its2 ≡ readers_of edges driver → held_levels ≡ levels → held_left ≡ left
    → length levels2 ≡ length held_levels → length left2 ≡ length held_left → a ≡ length levels → b ≡ length left
    → ((q : ℕ) → q < length held_levels → get_or levels2 q 0 ≡ raised (has its q) level (get_or held_levels q 0))
    → ((q : ℕ) → get_or left2 q 0 + times its2 q ≡ get_or held_left q 0)
    → IsReady left2 ready2 → take (length ready) ready2 ≡ ready
    → Peeling edges n (next + 1) ready2 (take a (levels2 ++ drop (length levels2) levels)) (take b (left2 ++ drop (length left2) left))
peel_next edges n next ready levels left driver level its its2 held_levels held_left levels2 left2 ready2 a b sources readers lt s is at its_are its2_are levels_are left_are size1 size2 a_is b_is lifted less is_ready front =
    let p = get_or ready next 0 in
    let at_p : level ≡ get_or levels p 0 = at ∙ ap (λ k. get_or levels k 0) is in
    let rs : its ≡ readers_of edges p = its_are ∙ ap (readers_of edges) is in
    let rs2 : its2 ≡ readers_of edges p = its2_are ∙ ap (readers_of edges) is in
    let long1 : length levels2 ≡ length levels = size1 ∙ ap length levels_are in
    let long2 : length left2 ≡ length left = size2 ∙ ap length left_are in
    let new1 = written levels2 levels a (a_is ∙ sym long1) in
    let new2 = written left2 left b (b_is ∙ sym long2) in
    let up : (q : ℕ) → q < length levels → get_or levels2 q 0 ≡ raised (has (readers_of edges p) q) (get_or levels p 0) (get_or levels q 0) = λ q h. (
    let held = ap length levels_are in
    lifted q (omega arith) ∙ ap (λ l. raised (has l q) level (get_or held_levels q 0)) rs ∙ ap (λ v. raised (has (readers_of edges p) q) v (get_or held_levels q 0)) at_p
    ∙ ap (λ l. raised (has (readers_of edges p) q) (get_or levels p 0) (get_or l q 0)) levels_are) in
    let down : (q : ℕ) → get_or left2 q 0 + times (readers_of edges p) q ≡ get_or left q 0 = λ q. ap (λ l. get_or left2 q 0 + times l q) (sym rs2) ∙ less q ∙ ap (λ l. get_or l q 0) left_are in
    let done = peel_step edges n next ready levels left ready2 levels2 left2 sources readers lt s long1 long2 up down is_ready front in
    let P : List ℕ → Type 0 = λ l. Peeling edges n (next + 1) ready2 l left2 in
    let Q : List ℕ → Type 0 = λ l. Peeling edges n (next + 1) ready2 (take a (levels2 ++ drop (length levels2) levels)) l in
    subst Q (sym new2) (subst P (sym new1) done)
