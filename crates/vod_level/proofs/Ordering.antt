-- Levels by peeling give the order, and then there is no cycle.
use Rattle.std.proofs.Common.{◌≡◌, ◌≢◌, ℕ, ◌+◌, ◌-◌, ◌<◌, ◌≤◌, true, List, [], ◌∷◌, ◌++◌, length, get_or, All, refl, sym, subst, ap, ◌∙◌, arith, inl, inr, append_assoc, append-nil}
use Rattle.std.specs.List.{Contains}
use Rattle.std.proofs.lemmas.List.Elements.{Contains-append_cases, Contains-append_left, Contains-append_right, Contains-push_cases, All-from_get_or, Contains-get_or}
use Rattle.vod_fanout.specs.declared.Feed.{Feed}
use Rattle.vod_level.specs.declared.types.Rank.{Rank}
use Rattle.vod_level.specs.Order.{rank, IsSooner, IsNext, GoesOn, IsOrder}
use Rattle.vod_level.specs.Cycle.{Chain, IsCycle}
use Rattle.vod_level.specs.Lists.{has_feed, by_levels, ranks_of}
use Rattle.vod_level.specs.Peel.{IsPeeled}
use Rattle.vod_level.proofs.Steps.{get_or_any}
use Rattle.vod_level.proofs.Taking.{feed_source}
use Rattle.vod_level.proofs.Ranking.{IsRising, contains_cons, contains_head, contains_tail, ranks_in, in_ranks, ranks_rise, level_feed, feed_level}

-- a list of the ranks of all drivers, and a front of it
pub record IsFront (n : ℕ) (levels : List ℕ) (before ranks : List Rank) : Type 0 where
  pub member : (r : Rank) → Contains (before ++ ranks) r → (r.driver < n) × (r.level ≡ get_or levels r.driver 0)
  pub each : (d : ℕ) → d < n → Contains (before ++ ranks) (rank d (get_or levels d 0))
  pub across : (b r : Rank) → Contains before b → Contains ranks r → IsSooner b r
  pub rising : IsRising ranks

not_sooner : (a b : Rank) → a.driver ≡ b.driver → a.level ≡ b.level → IsSooner a b → ⊥
not_sooner a b d l (inl less) = omega arith
not_sooner a b d l (inr (same, less)) = omega arith

sooner_level : (a b : Rank) → IsSooner a b → a.level ≤ b.level
sooner_level a b (inl less) = omega arith
sooner_level a b (inr (same, less)) = omega arith

sooner_all : (before : List Rank) (next : Rank) → ((b : Rank) → Contains before b → IsSooner b next) → All (λ b. IsSooner b next) before
sooner_all before next h = All-from_get_or (λ b. IsSooner b next) before next (λ i lt. h (get_or before i next) (Contains-get_or before i next lt))

-- a driver of a lower level than the next one is there already
is_there : (n : ℕ) (levels : List ℕ) (before : List Rank) (next : Rank) (ranks : List Rank) (p : ℕ) → IsFront n levels before (next ∷ ranks) → p < n → get_or levels p 0 < next.level → Contains before (rank p (get_or levels p 0))
unfolding IsRising
is_there n levels before next ranks p f inside low =
    elim (Contains-append_cases before (next ∷ ranks) (rank p (get_or levels p 0)) (f.each p inside)) [
      | inl there ↦ there
      | inr later ↦ elim (contains_cons next (rank p (get_or levels p 0)) ranks later) [
        | inl e ↦ absurd (let same : next.level ≡ get_or levels p 0 = ap (λ r. r.level) e in omega arith)
        | inr behind ↦ absurd (let l = sooner_level next (rank p (get_or levels p 0)) (f.rising.0 (rank p (get_or levels p 0)) behind) in omega arith)
      ]
    ]

front_next : (n : ℕ) (levels : List ℕ) (before : List Rank) (next : Rank) (ranks : List Rank) → IsFront n levels before (next ∷ ranks) → IsFront n levels (before ++ next ∷ []) ranks
unfolding IsRising
front_next n levels before next ranks f =
    let same : (before ++ next ∷ []) ++ ranks ≡ before ++ next ∷ ranks = append_assoc before (next ∷ []) ranks in record {
      member = λ r c. (let P : List Rank → Type 0 = λ l. Contains l r in f.member r (subst P same c));
      each = λ d h. (let P : List Rank → Type 0 = λ l. Contains l (rank d (get_or levels d 0)) in subst P (sym same) (f.each d h));
      across = λ b r c e. elim (Contains-push_cases before next b c) [
        | inl old ↦ f.across b r old (contains_tail next r ranks e)
        | inr is ↦ (let P : Rank → Type 0 = λ q. IsSooner q r in subst P is (f.rising.0 r e))
      ];
      rising = f.rising.1;
    }

pub goes_on : (edges : List Feed) (n : ℕ) (levels left : List ℕ) (before ranks : List Rank) → All (λ f. f.source < n) edges → IsPeeled edges n levels left → ((q : ℕ) → get_or left q 0 ≡ 0) → IsFront n levels before ranks
    → GoesOn (has_feed edges) n before ranks
goes_on edges n levels left before [] sources s none f = λ d h. (get_or levels d 0, (let P : List Rank → Type 0 = λ l. Contains l (rank d (get_or levels d 0)) in subst P (append-nil before) (f.each d h)))
goes_on edges n levels left before (next ∷ ranks) sources s none f =
    let m = f.member next (Contains-append_right before (next ∷ ranks) next (contains_head next ranks)) in
    let below : (p : ℕ) → has_feed edges p next.driver ≡ true → Contains before (rank p (get_or levels p 0)) = λ p e. (
    let b = s.behind p next.driver e (none next.driver) in
    is_there n levels before next ranks p f (feed_source edges n p next.driver sources e) (omega (arith, m.1, b.1))) in
    let here : IsNext (has_feed edges) before next = record {
      once = λ level c. (
          let o = f.member (rank next.driver level) (Contains-append_left before (next ∷ ranks) (rank next.driver level) c) in
          not_sooner (rank next.driver level) next refl (o.1 ∙ sym m.1) (f.across (rank next.driver level) next c (contains_head next ranks)));
      behind = λ p e. (let b = s.behind p next.driver e (none next.driver) in (get_or levels p 0, below p e, omega (arith, m.1, b.1)));
      least = elim (s.least next.driver m.0 (none next.driver)) [
        | inl low ↦ inl (m.1 ∙ low)
        | inr some ↦ inr (some.0, get_or levels some.0 0, some.1, below some.0 some.1, m.1 ∙ some.2)
      ];
      rising = sooner_all before next (λ b c. f.across b next c (contains_head next ranks));
    } in
    (m.0, here, goes_on edges n levels left (before ++ next ∷ []) ranks sources s none (front_next n levels before next ranks f))

pub is_order : (edges : List Feed) (n : ℕ) (levels left : List ℕ) → All (λ f. f.source < n) edges → IsPeeled edges n levels left → ((q : ℕ) → get_or left q 0 ≡ 0) → IsOrder (has_feed edges) n (ranks_of (by_levels 0 levels) 0 (n + 1))
is_order edges n levels left sources s none = goes_on edges n levels left [] (ranks_of (by_levels 0 levels) 0 (n + 1)) sources s none (record {
  member = λ r c. (
      let i = ranks_in (by_levels 0 levels) 0 (n + 1) r c in
      let l = level_feed levels 0 r.level r.driver i.1 in
      (omega (arith, l.1, s.levels_size), sym l.2 ∙ ap (λ k. get_or levels k 0) (let z : r.driver - 0 ≡ r.driver = omega arith in z)));
  each = λ d h. (
      let z : d - 0 ≡ d = omega arith in
      let e = ap (λ k. has_feed (by_levels 0 levels) (get_or levels k 0) d) (sym z) ∙ feed_level levels 0 d (omega arith) (omega (arith, s.levels_size)) in
      let low = s.low d in
      in_ranks (by_levels 0 levels) 0 (n + 1) (get_or levels d 0) d (omega arith) (omega arith) e);
  across = λ b r c e. absurd (omega (arith, c.1));
  rising = ranks_rise levels 0 (n + 1);
})

-- along a chain levels rise
pub chain_rises : (edges : List Feed) (n : ℕ) (levels left : List ℕ) → IsPeeled edges n levels left → (p : ℕ) (ds : List ℕ) (q : ℕ) → Chain (has_feed edges) p ds q → get_or left q 0 ≡ 0
    → (get_or left p 0 ≡ 0) × (get_or levels p 0 < get_or levels q 0)
chain_rises edges n levels left s p [] q c z = s.behind p q c z
chain_rises edges n levels left s p (d ∷ ds) q c z =
    let rest = chain_rises edges n levels left s d ds q c.1 z in
    let here = s.behind p d c.0 rest.0 in
    (here.0, omega (arith, here.1, rest.1))

-- who lies at the front of a cycle is stuck
pub cycle_stuck : (edges : List Feed) (n : ℕ) (levels left : List ℕ) → IsPeeled edges n levels left → (d : ℕ) (ds : List ℕ) → Chain (has_feed edges) d ds d → get_or left d 0 ≢ 0
cycle_stuck edges n levels left s d ds c z = let r = chain_rises edges n levels left s d ds d c z in omega (arith, r.1)

pub no_cycle : (edges : List Feed) (n : ℕ) (levels left : List ℕ) → IsPeeled edges n levels left → ((q : ℕ) → get_or left q 0 ≡ 0) → (ds : List ℕ) → IsCycle (has_feed edges) ds → ⊥
no_cycle edges n levels left s none [] c = c
no_cycle edges n levels left s none (d ∷ ds) c = cycle_stuck edges n levels left s d ds c (none d)

pub levels_low : (edges : List Feed) (n : ℕ) (levels left held : List ℕ) → IsPeeled edges n levels left → held ≡ levels → All (λ l. l ≤ length held) held
levels_low edges n levels left held s e = λ k d h.
    let low = s.low k in
    let size = ap length e in
    let at = ap (λ l. get_or l k 0) e in
    let any = get_or_any held k d 0 h in
    omega (arith, s.levels_size)
