-- Cycles, and the shortest and least of them.
use Rattle.std.proofs.Common.{◌≡◌, ◌≢◌, ℕ, zero, suc, ◌+◌, ◌<◌, ◌≤◌, Bool, true, false, List, [], ◌∷◌, ◌++◌, length, get_or, All, refl, sym, subst, ap, ◌∙◌, arith, inl, inr}
use Rattle.std.proofs.lemmas.List.Elements.{All-nil, All-cons}
use Rattle.std.proofs.lemmas.Bool.{cases_Bool, cases_lt}
use Rattle.vod_fanout.specs.declared.Feed.{Feed}
use Rattle.vod_level.specs.Cycle.{Chain, IsCycle, IsAtMost, IsLeastCycle, first}
use Rattle.vod_level.specs.Lists.{has, has_feed}
use Rattle.vod_level.specs.Peel.{absent, IsPeeled}
use Rattle.vod_level.specs.Steps.{turned_feeds, IsSteps, IsWalk, IsRound, IsFrom}
use Rattle.vod_level.proofs.Counts.{has_cases, absent_new}
use Rattle.vod_level.proofs.Ordering.{cycle_stuck}
use Rattle.vod_level.proofs.Taking.{get_or_past, feed_source}
use Rattle.vod_level.proofs.Walking.{has_turned}

-- chains that meet
pub chain_join : (g : ℕ → ℕ → Bool) (a : ℕ) (xs : List ℕ) (b : ℕ) (ys : List ℕ) (c : ℕ) → Chain g a xs b → Chain g b ys c → Chain g a (xs ++ b ∷ ys) c
chain_join g a [] b ys c h k = (h, k)
chain_join g a (x ∷ xs) b ys c h k = (h.0, chain_join g x xs b ys c h.1 k)

-- a cycle from each of its drivers: what comes before is a chain to it
round_all : (g : ℕ → ℕ → Bool) (P : ℕ → Type 0) → ((d : ℕ) (ds : List ℕ) → Chain g d ds d → P d) → (a : ℕ) (xs : List ℕ) (b : ℕ) (ys : List ℕ) → Chain g a xs b → Chain g b ys a → All P ys
round_all g P each a xs b [] h k = All-nil P
round_all g P each a xs b (y ∷ ys) h k =
    let to_y : Chain g a (xs ++ b ∷ []) y = chain_join g a xs b [] y h k.0 in
    All-cons P y ys (each y (ys ++ a ∷ (xs ++ b ∷ [])) (chain_join g y ys a (xs ++ b ∷ []) y k.1 to_y)) (round_all g P each a (xs ++ b ∷ []) y ys to_y k.1)

cycle_all : (g : ℕ → ℕ → Bool) (P : ℕ → Type 0) → ((d : ℕ) (ds : List ℕ) → Chain g d ds d → P d) → (ds : List ℕ) → IsCycle g ds → All P ds
cycle_all g P each [] h = All-nil P
cycle_all g P each (d ∷ []) h = All-cons P d [] (each d [] h) (All-nil P)
cycle_all g P each (d ∷ e ∷ ds) h =
    All-cons P d (e ∷ ds) (each d (e ∷ ds) h) (All-cons P e ds (each e (ds ++ d ∷ []) (chain_join g e ds d [] e h.1 h.0)) (round_all g P each d [] e ds h.0 h.1))

one_none : (x : ℕ) → x ≡ 1 → x ≡ 0 → ⊥
one_none x a b = omega arith

more_one : (x y : ℕ) → x ≡ 1 → y ≢ 0 → x ≡ y + 1 → ⊥
more_one x y a b e = b (omega arith)

-- a chain to the goal is no shorter than the steps
pub chain_steps : (fs : List Feed) (n goal : ℕ) (steps : List ℕ) → IsSteps (turned_feeds fs) n goal steps → (d : ℕ) (ds : List ℕ) → Chain (has_feed fs) d ds goal → (get_or steps d 0 ≢ 0) × (get_or steps d 0 ≤ length ds + 1)
chain_steps fs n goal steps s d [] h =
    let one = s.last d (has_turned fs d goal ∙ h) in
    ((λ z. one_none (get_or steps d 0) one z), omega arith)
chain_steps fs n goal steps s d (e ∷ ds) h =
    let ih = chain_steps fs n goal steps s e ds h.1 in
    let near = s.near d e (has_turned fs d e ∙ h.0) ih.0 in
    (near.0, omega (arith, near.1, ih.1))

-- a walk is a chain as long as the steps
walk_chain : (fs : List Feed) (n goal : ℕ) (steps : List ℕ) → IsSteps (turned_feeds fs) n goal steps → (d : ℕ) (ds : List ℕ) → IsWalk (has_feed fs) steps d ds → Chain (has_feed fs) d ds goal × (get_or steps d 0 ≡ length ds + 1)
walk_chain fs n goal steps s d [] w =
    elim (s.leads d (λ z. one_none (get_or steps d 0) w z)) [
      | inl one ↦ (sym (has_turned fs d goal) ∙ one.1, omega (arith, one.0))
      | inr more ↦ absurd (more_one (get_or steps d 0) (get_or steps more.0 0) w more.2 more.3)
    ]
walk_chain fs n goal steps s d (e ∷ ds) w =
    let ih = walk_chain fs n goal steps s e ds w.4 in
    ((w.0, ih.0), omega (arith, w.2, ih.1))

-- and the least of these
walk_least : (fs : List Feed) (n goal : ℕ) (steps : List ℕ) → IsSteps (turned_feeds fs) n goal steps → (d : ℕ) (ds es : List ℕ) → IsWalk (has_feed fs) steps d ds → Chain (has_feed fs) d es goal → length es ≡ length ds → IsAtMost ds es
walk_least fs n goal steps s d [] es w c same = tt
walk_least fs n goal steps s d (x ∷ xs) [] w c same = absurd (omega arith)
walk_least fs n goal steps s d (x ∷ xs) (y ∷ ys) w c same =
    let here = walk_chain fs n goal steps s x xs w.4 in
    let there = chain_steps fs n goal steps s y ys c.1 in
    let near = s.near d y (has_turned fs d y ∙ c.0) there.0 in
    let equal : get_or steps y 0 ≡ get_or steps x 0 = omega (arith, w.2, here.1, there.1, near.1) in
    let low = w.3 y c.0 equal in
    elim (cases_lt x y) [
      | inl less ↦ inl less
      | inr ge ↦ (
          let e : x ≡ y = omega arith in
          let P : ℕ → Type 0 = λ k. Chain (has_feed fs) k ys goal in
          inr (e, walk_least fs n goal steps s x xs ys w.4 (subst P (sym e) c.1) (omega arith)))
    ]

no_shorter : (fs : List Feed) (n goal : ℕ) (steps : List ℕ) (d : ℕ) (ds es : List ℕ) → IsSteps (turned_feeds fs) n goal steps → d ≡ goal → get_or steps d 0 ≡ length ds + 1 → IsCycle (has_feed fs) es → first es ≡ d → length (d ∷ ds) ≤ length es
no_shorter fs n goal steps d ds [] s is size c same = absurd c
no_shorter fs n goal steps d ds (e ∷ es) s is size c same =
    let at : e ≡ goal = same ∙ is in
    let P : ℕ → Type 0 = λ k. Chain (has_feed fs) e es k in
    let long = chain_steps fs n goal steps s e es (subst P at c) in
    let equal : get_or steps e 0 ≡ get_or steps d 0 = ap (λ k. get_or steps k 0) same in
    omega (arith, long.1)

no_less : (fs : List Feed) (n goal : ℕ) (steps : List ℕ) (d : ℕ) (ds es : List ℕ) → IsSteps (turned_feeds fs) n goal steps → d ≡ goal → IsWalk (has_feed fs) steps d ds → IsCycle (has_feed fs) es → first es ≡ d → length es ≡ length (d ∷ ds) → IsAtMost (d ∷ ds) es
no_less fs n goal steps d ds [] s is w c same size = absurd c
no_less fs n goal steps d ds (e ∷ es) s is w c same size =
    let P : ℕ → Type 0 = λ k. Chain (has_feed fs) e es k in
    let Q : ℕ → Type 0 = λ k. Chain (has_feed fs) k es goal in
    inr (sym same, walk_least fs n goal steps s d ds es w (subst Q same (subst P (same ∙ is) c)) (omega arith))

pub round_is_least : (fs : List Feed) (n goal : ℕ) (steps cycle : List ℕ) → IsSteps (turned_feeds fs) n goal steps → IsRound (has_feed fs) steps goal cycle → ((d : ℕ) → d < goal → (ds : List ℕ) → Chain (has_feed fs) d ds d → ⊥) → IsLeastCycle (has_feed fs) cycle
round_is_least fs n goal steps [] s r none = absurd r
round_is_least fs n goal steps (d ∷ ds) s r none =
    let w = walk_chain fs n goal steps s d ds r.1 in
    let P : ℕ → Type 0 = λ k. Chain (has_feed fs) d ds k in
    record {
      cycle = subst P (sym r.0) w.0;
      lowest = λ es c. cycle_all (has_feed fs) (λ e. d ≤ e) (λ e ys h. elim (cases_lt e goal) [ inl less ↦ absurd (none e less ys h) | inr ge ↦ omega (arith, r.0) ]) es c;
      shortest = λ es c same. no_shorter fs n goal steps d ds es s r.0 w.1 c same;
      least = λ es c same size. no_less fs n goal steps d ds es s r.0 r.1 c same size;
    }

-- a driver that is stuck leads back to a cycle
record Seen (g : ℕ → ℕ → Bool) (p : ℕ) (seen : List ℕ) : Type 0 where
  reach : (x : ℕ) → has seen x ≡ true → (ds : List ℕ) × Chain g p ds x

stuck_below : (left : List ℕ) (q n : ℕ) → length left ≡ n → get_or left q 0 ≢ 0 → q < n
stuck_below left q n size h = elim (cases_lt q n) [ inl less ↦ less | inr far ↦ absurd (h (get_or_past left q (omega arith))) ]

back : (fs : List Feed) (n : ℕ) (levels left : List ℕ) → IsPeeled fs n levels left → (fuel p : ℕ) (seen : List ℕ) → absent n seen ≡ fuel → get_or left p 0 ≢ 0 → has seen p ≡ false → Seen (has_feed fs) p seen → (d : ℕ) × (ds : List ℕ) × Chain (has_feed fs) d ds d
back fs n levels left s zero p seen e h new r = absurd (let a = absent_new n seen p (stuck_below left p n s.left_size h) new in omega arith)
back fs n levels left s (suc fuel) p seen e h new r =
    let less = absent_new n seen p (stuck_below left p n s.left_size h) new in
    let q = s.stuck p h in
    let here : Seen (has_feed fs) q.0 (seen ++ p ∷ []) = record {
      reach = λ x i. elim (has_cases seen p x i) [
        | inl old ↦ (let c = r.reach x old in (p ∷ c.0, (q.1, c.1)))
        | inr same ↦ (let P : ℕ → Type 0 = λ k. (ds : List ℕ) × Chain (has_feed fs) q.0 ds k in subst P same ([], q.1))
      ];
    } in
    elim (cases_Bool (has (seen ++ p ∷ []) q.0)) [
      | inl again ↦ (let c = here.reach q.0 again in (q.0, c.0, c.1))
      | inr fresh ↦ back fs n levels left s fuel q.0 (seen ++ p ∷ []) (omega arith) q.2 fresh here
    ]

pub stuck_cycle : (fs : List Feed) (n : ℕ) (levels left : List ℕ) (q : ℕ) → IsPeeled fs n levels left → get_or left q 0 ≢ 0 → (d : ℕ) × (ds : List ℕ) × Chain (has_feed fs) d ds d
stuck_cycle fs n levels left q s h = back fs n levels left s (absent n []) q [] refl h refl (record { reach = λ x i. absurd (let e : false ≡ true = i in cc) })

-- a cycle begins below n
pub cycle_below : (fs : List Feed) (n d : ℕ) (ds : List ℕ) → All (λ f. f.source < n) fs → Chain (has_feed fs) d ds d → d < n
cycle_below fs n d [] all c = feed_source fs n d d all c
cycle_below fs n d (e ∷ ds) all c = feed_source fs n d e all c.0

-- what is found from a driver
pub no_chain : (fs : List Feed) (n goal : ℕ) (steps : List ℕ) → IsSteps (turned_feeds fs) n goal steps → get_or steps goal 0 ≡ 0 → (ds : List ℕ) → Chain (has_feed fs) goal ds goal → ⊥
no_chain fs n goal steps s none ds c = (chain_steps fs n goal steps s goal ds c).0 none

pub found_least : (fs : List Feed) (n goal : ℕ) (cycle : List ℕ) → IsFrom fs n goal cycle → ((d : ℕ) → d < goal → (ds : List ℕ) → Chain (has_feed fs) d ds d → ⊥) → IsLeastCycle (has_feed fs) cycle
found_least fs n goal cycle f none = round_is_least fs n goal f.0 cycle f.1 f.2 none

pub none_next : (fs : List Feed) (goal : ℕ) → ((d : ℕ) → d < goal → (ds : List ℕ) → Chain (has_feed fs) d ds d → ⊥) → ((ds : List ℕ) → Chain (has_feed fs) goal ds goal → ⊥) → (d : ℕ) → d < goal + 1 → (ds : List ℕ) → Chain (has_feed fs) d ds d → ⊥
none_next fs goal below here d h =
    elim (cases_lt d goal) [
      | inl less ↦ below d less
      | inr ge ↦ (let e : goal ≡ d = omega arith in let P : ℕ → Type 0 = λ k. (ds : List ℕ) → Chain (has_feed fs) k ds k → ⊥ in subst P e here)
    ]

pub none_at_all : (fs : List Feed) (n end q : ℕ) (levels left : List ℕ) → All (λ f. f.source < n) fs → IsPeeled fs n levels left → get_or left q 0 ≢ 0 → n ≤ end → ((d : ℕ) → d < end → (ds : List ℕ) → Chain (has_feed fs) d ds d → ⊥) → ⊥
none_at_all fs n end q levels left sources s h all none =
    let c = stuck_cycle fs n levels left q s h in
    let below = cycle_below fs n c.0 c.1 sources c.2 in
    none c.0 (omega arith) c.1 c.2

-- a chain the other way
chain_turned : (fs : List Feed) (p : ℕ) (ds : List ℕ) (q : ℕ) → Chain (has_feed fs) p ds q → (es : List ℕ) × Chain (has_feed (turned_feeds fs)) q es p
chain_turned fs p [] q c = ([], has_turned fs p q ∙ c)
chain_turned fs p (d ∷ ds) q c =
    let rest = chain_turned fs d ds q c.1 in
    (rest.0 ++ d ∷ [], chain_join (has_feed (turned_feeds fs)) q rest.0 d [] p rest.1 (has_turned fs p d ∙ c.0))

-- who feeds none that is stuck is on no cycle
pub no_chain_ahead : (fs turned : List Feed) (n goal : ℕ) (levels left : List ℕ) → turned ≡ turned_feeds fs → IsPeeled turned n levels left → get_or left goal 0 ≡ 0 → (ds : List ℕ) → Chain (has_feed fs) goal ds goal → ⊥
no_chain_ahead fs turned n goal levels left e s none ds c =
    let P : List Feed → Type 0 = λ l. IsPeeled l n levels left in
    let back = chain_turned fs goal ds goal c in
    cycle_stuck (turned_feeds fs) n levels left (subst P e s) goal back.0 back.1 none
