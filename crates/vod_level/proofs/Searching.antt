-- A search goes on from one driver more.
use Rattle.std.proofs.Common.{◌≡◌, ◌≢◌, ℕ, zero, suc, ◌+◌, ◌<◌, ◌≤◌, ◌==◌, Bool, true, false, List, [], ◌∷◌, ◌++◌, length, take, drop, replicate, get_or, All, refl, sym, subst, ap, ◌∙◌, arith, inl, inr}
use Rattle.std.proofs.lemmas.List.{length-take, take_all}
use Rattle.std.proofs.lemmas.Bool.{cases_Bool, cases_lt, cases_eq, or_cases, eqb-true}
use Rattle.vod_fanout.specs.declared.Feed.{Feed}
use Rattle.vod_fanout.specs.FanOut.{readers_of}
use Rattle.vod_level.specs.Lists.{has, has_feed}
use Rattle.vod_level.specs.Steps.{reached_in, IsReached, IsSteps, Searching}
use Rattle.vod_level.proofs.Counts.{has_cases, has_front, has_at, has_reader, taken, absent_nil}
use Rattle.vod_level.proofs.Steps.{get_or_any}
use Rattle.vod_level.proofs.Taking.{feed_reader, get_or_past, take_front, written, get_or_zeros}
use Rattle.vod_level.proofs.Reaching.{reached_kept, reached_most}

-- where a number stands
pub has_index : (xs : List ℕ) (x : ℕ) → has xs x ≡ true → (i : ℕ) × (i < length xs) × (get_or xs i 0 ≡ x)
has_index [] x h = absurd (let e : false ≡ true = h in cc)
has_index (y ∷ ys) x h =
    elim (or_cases (y == x) (has ys x) h) [
      | inl e ↦ (0, omega arith, eqb-true y x e)
      | inr later ↦ (let ih = has_index ys x later in (suc ih.0, omega (arith, ih.1), ih.2))
    ]

taken_at : (n : ℕ) (ys : List ℕ) (i : ℕ) → i < n → get_or (take n ys) i 0 ≡ get_or ys i 0
taken_at zero ys i h = absurd (omega arith)
taken_at (suc n) [] i h = refl
taken_at (suc n) (y ∷ ys) zero h = refl
taken_at (suc n) (y ∷ ys) (suc i) h = taken_at n ys i (omega arith)

some_below : (xs : List ℕ) (i : ℕ) → get_or xs i 0 ≢ 0 → i < length xs
some_below xs i h = elim (cases_lt i (length xs)) [ inl less ↦ less | inr far ↦ absurd (h (get_or_past xs i far)) ]

one_zero : (x : ℕ) → x ≡ 1 → x ≡ 0 → ⊥
one_zero x a b = omega arith

suc_some : (x : ℕ) → x + 1 ≡ 0 → ⊥
suc_some x e = omega arith

front_at : (xs ys : List ℕ) (i : ℕ) → i < length xs → take (length xs) ys ≡ xs → get_or ys i 0 ≡ get_or xs i 0
front_at xs ys i lt e = sym (taken_at (length xs) ys i lt) ∙ ap (λ l. get_or l i 0) e

zero_in : (b : Bool) (count old : ℕ) → b ≡ false → old ≡ 0 → reached_in b count old ≡ 0
zero_in true count old h e = absurd (let q : true ≡ false = h in cc)
zero_in false count old h e = e

count_in : (b : Bool) (count old : ℕ) → b ≡ true → old ≡ 0 → reached_in b count old ≡ count
count_in true count old h e = ap (reached_in true count) e
count_in false count old h e = absurd (let q : false ≡ true = h in cc)

pub search_step : (turned : List Feed) (n goal next : ℕ) (reached steps reached2 steps2 : List ℕ) → All (λ f. f.source < n) turned → All (λ f. f.reader < n) turned → next < length reached
    → Searching turned n goal next reached steps → length steps2 ≡ length steps
    → ((q : ℕ) → q < length steps → get_or steps2 q 0 ≡ reached_in (has (readers_of turned (get_or reached next 0)) q) (get_or steps (get_or reached next 0) 0 + 1) (get_or steps q 0))
    → IsReached steps2 reached2 → take (length reached) reached2 ≡ reached
    → ((i : ℕ) → length reached ≤ i → i < length reached2 → get_or steps2 (get_or reached2 i 0) 0 ≡ get_or steps (get_or reached next 0) 0 + 1)
    → Searching turned n goal (next + 1) reached2 steps2
search_step turned n goal next reached steps reached2 steps2 sources readers lt s long moved is_reached front added =
    let cur = get_or reached next 0 in
    let count = get_or steps cur 0 + 1 in
    let rs = readers_of turned cur in
    let cur_low = s.low cur in
    let cur_some : get_or steps cur 0 ≢ 0 = (s.is_reached.only cur (has_at reached next 0 lt)).1 in
    let longer : length reached ≤ length reached2 = (let size = ap length front in let cut = length-take (length reached) reached2 in omega arith) in
    let kept : (q : ℕ) → get_or steps q 0 ≢ 0 → get_or steps2 q 0 ≡ get_or steps q 0 = λ q h. (
    let below : q < length steps = some_below steps q h in
    moved q below ∙ reached_kept (has rs q) count (get_or steps q 0) h) in
    let old_at : (i : ℕ) → i < length reached → get_or steps2 (get_or reached2 i 0) 0 ≡ get_or steps (get_or reached i 0) 0 = λ i h. (
    let is = front_at reached reached2 i h front in
    let some = (s.is_reached.only (get_or reached i 0) (has_at reached i 0 h)).1 in
    ap (λ k. get_or steps2 k 0) is ∙ kept (get_or reached i 0) some) in
    let most : (j : ℕ) → j < length reached2 → get_or steps2 (get_or reached2 j 0) 0 ≤ count = λ j h. (
    elim (cases_lt j (length reached)) [
      | inl old ↦ (let e = old_at j old in let t = s.top next j (omega arith) lt old in omega arith)
      | inr new ↦ (let e = added j new h in omega arith)
    ]) in
    let least : (i : ℕ) → next ≤ i → i < length reached2 → get_or steps cur 0 ≤ get_or steps2 (get_or reached2 i 0) 0 = λ i lo h. (
    elim (cases_lt i (length reached)) [
      | inl old ↦ (let e = old_at i old in let r = s.rising next i lo old in omega arith)
      | inr new ↦ (let e = added i new h in omega arith)
    ]) in
    let done : take (next + 1) reached2 ≡ take next reached ++ cur ∷ [] = take_front reached reached2 (next + 1) (omega arith) front ∙ taken reached next 0 lt in
    record {
      size = long ∙ s.size;
      is_reached = is_reached;
      within = omega arith;
      low = λ q. elim (cases_lt q (length steps)) [
        | inl h ↦ (let m = moved q h in let r = reached_most (has rs q) count (get_or steps q 0) in let l = s.low q in omega arith)
        | inr h ↦ (let e = get_or_past steps2 q (omega arith) in omega arith)
      ];
      last = λ p e. (let o = s.last p e in kept p (λ z. one_zero (get_or steps p 0) o z) ∙ o);
      near = λ p q e h. elim (has_cases (take next reached) cur q (ap (λ l. has l q) (sym done) ∙ h)) [
        | inl old ↦ (
            let o = s.near p q e old in
            let some = (s.is_reached.only q (has_front reached next q old)).1 in
            let a = kept p o.0 in
            let b = kept q some in
            (λ z. o.0 (sym a ∙ z), omega (arith, o.1)))
        | inr is ↦ (
            let reads : has rs p ≡ true = has_reader turned cur p ∙ ap (λ k. has_feed turned k p) is ∙ e in
            let below = feed_reader turned n q p readers e in
            let b : get_or steps2 q 0 ≡ get_or steps cur 0 = ap (λ k. get_or steps2 k 0) (sym is) ∙ kept cur cur_some in
            elim (cases_eq (get_or steps p 0) 0) [
              | inl none ↦ (
                  let a = moved p (omega (arith, s.size)) ∙ count_in (has rs p) count (get_or steps p 0) reads none in
                  (λ z. suc_some (get_or steps cur 0) (sym a ∙ z), omega arith))
              | inr some ↦ (
                  let a = kept p some in
                  let at = has_index reached p (s.is_reached.all p some) in
                  let t = s.top next at.0 (omega arith) lt at.1 in
                  let same = ap (λ k. get_or steps k 0) at.2 in
                  (λ z. some (sym a ∙ z), omega arith))
            ])
      ];
      leads = λ p h. elim (cases_eq (get_or steps p 0) 0) [
        | inl none ↦ (
            let below : p < length steps = omega (arith, some_below steps2 p h) in
            elim (cases_Bool (has rs p)) [
              | inl reads ↦ (
                  let a = moved p below ∙ count_in (has rs p) count (get_or steps p 0) reads none in
                  let b = kept cur cur_some in
                  inr (cur, sym (has_reader turned cur p) ∙ reads, (λ z. cur_some (sym b ∙ z)), a ∙ ap (λ v. v + 1) (sym b)))
              | inr other ↦ absurd (h (moved p below ∙ zero_in (has rs p) count (get_or steps p 0) other none))
            ])
        | inr some ↦ (
            let a = kept p some in
            elim (s.leads p some) [
              | inl one ↦ inl (a ∙ one.0, one.1)
              | inr more ↦ (let b = kept more.0 more.2 in inr (more.0, more.1, (λ z. more.2 (sym b ∙ z)), a ∙ more.3 ∙ ap (λ v. v + 1) (sym b)))
            ])
      ];
      rising = λ i j le h. elim (cases_lt j (length reached)) [
        | inl old ↦ (let a = old_at i (omega arith) in let b = old_at j old in let r = s.rising i j le old in omega arith)
        | inr new ↦ (let e = added j new h in let m = most i (omega arith) in omega arith)
      ];
      top = λ i j lo hi h. (let m = most j h in let l = least i (omega arith) hi in omega arith);
    }

pub search_start : (turned : List Feed) (n goal : ℕ) (reached steps zeros none : List ℕ) → All (λ f. f.reader < n) turned → ((q : ℕ) → get_or zeros q 0 ≡ 0) → length zeros ≡ n → none ≡ [] → length steps ≡ length zeros
    → ((q : ℕ) → q < length zeros → get_or steps q 0 ≡ reached_in (has (readers_of turned goal) q) 1 (get_or zeros q 0))
    → IsReached steps reached → ((i : ℕ) → length none ≤ i → i < length reached → get_or steps (get_or reached i 0) 0 ≡ 1) → Searching turned n goal 0 reached steps
search_start turned n goal reached steps zeros none readers are_zero size empty long moved is_reached added =
    let rs = readers_of turned goal in
    let nothing : length none ≡ 0 = ap length empty in
    let one : (i : ℕ) → i < length reached → get_or steps (get_or reached i 0) 0 ≡ 1 = λ i h. added i (omega arith) h in
    record {
      size = long ∙ size;
      is_reached = is_reached;
      within = omega arith;
      low = λ q. elim (cases_lt q (length zeros)) [
        | inl h ↦ (let m = moved q h in let r = reached_most (has rs q) 1 (get_or zeros q 0) in let z = are_zero q in omega arith)
        | inr h ↦ (let e = get_or_past steps q (omega arith) in omega arith)
      ];
      last = λ p e. moved p (omega (arith, feed_reader turned n goal p readers e)) ∙ count_in (has rs p) 1 (get_or zeros p 0) (has_reader turned goal p ∙ e) (are_zero p);
      near = λ p q e h. absurd (let f : false ≡ true = h in cc);
      leads = λ p h. (
          let below : p < length zeros = omega (arith, some_below steps p h) in
          elim (cases_Bool (has rs p)) [
            | inl reads ↦ inl (moved p below ∙ count_in (has rs p) 1 (get_or zeros p 0) reads (are_zero p), sym (has_reader turned goal p) ∙ reads)
            | inr other ↦ absurd (h (moved p below ∙ zero_in (has rs p) 1 (get_or zeros p 0) other (are_zero p)))
          ]);
      rising = λ i j le h. (let a = one i (omega arith) in let b = one j h in omega arith);
      top = λ i j lo hi h. (let a = one i hi in let b = one j h in omega arith);
    }

pub search_end : (turned : List Feed) (n goal next : ℕ) (reached steps : List ℕ) → length reached ≤ next → Searching turned n goal next reached steps → IsSteps turned n goal steps
search_end turned n goal next reached steps end s = record {
  size = s.size;
  last = s.last;
  near = λ p q e h. s.near p q e (ap (λ l. has l q) (take_all next reached end) ∙ s.is_reached.all q h);
  leads = s.leads;
}

-- the same, as the code has it
pub search_begins : (turned : List Feed) (n goal : ℕ) (zeros none held its steps reached : List ℕ) (a : ℕ) → All (λ f. f.reader < n) turned → zeros ≡ replicate n 0 → length zeros ≡ n → none ≡ [] → held ≡ zeros → its ≡ readers_of turned goal → a ≡ length zeros → length steps ≡ length held
    → ((q : ℕ) → q < length held → get_or steps q 0 ≡ reached_in (has its q) 1 (get_or held q 0)) → IsReached steps reached → ((i : ℕ) → length none ≤ i → i < length reached → get_or steps (get_or reached i 0) 0 ≡ 1)
    → Searching turned n goal 0 reached (take a (steps ++ drop (length steps) zeros))
search_begins turned n goal zeros none held its steps reached a readers are size empty same its_are a_is long moved is_reached added =
    let size2 : length steps ≡ length zeros = long ∙ ap length same in
    let moved2 : (q : ℕ) → q < length zeros → get_or steps q 0 ≡ reached_in (has (readers_of turned goal) q) 1 (get_or zeros q 0) = λ q h. (
    let l = ap length same in
    moved q (omega arith) ∙ ap (λ l. reached_in (has l q) 1 (get_or held q 0)) its_are ∙ ap (λ l. reached_in (has (readers_of turned goal) q) 1 (get_or l q 0)) same) in
    let s = search_start turned n goal reached steps zeros none readers (λ q. get_or_zeros n q zeros are) size empty size2 moved2 is_reached added in
    let P : List ℕ → Type 0 = Searching turned n goal 0 reached in
    subst P (sym (written steps zeros a (a_is ∙ sym size2))) s

pub search_goes : (turned : List Feed) (n goal next : ℕ) (reached steps : List ℕ) (driver more : ℕ) (held its steps2 reached2 : List ℕ) (a : ℕ) → All (λ f. f.source < n) turned → All (λ f. f.reader < n) turned → next < length reached
    → Searching turned n goal next reached steps → driver ≡ get_or reached next 0 → more ≡ get_or steps driver 0 + 1 → held ≡ steps → its ≡ readers_of turned driver → a ≡ length steps → length steps2 ≡ length held
    → ((q : ℕ) → q < length held → get_or steps2 q 0 ≡ reached_in (has its q) more (get_or held q 0)) → IsReached steps2 reached2 → take (length reached) reached2 ≡ reached
    → ((i : ℕ) → length reached ≤ i → i < length reached2 → get_or steps2 (get_or reached2 i 0) 0 ≡ more) → Searching turned n goal (next + 1) reached2 (take a (steps2 ++ drop (length steps2) steps))
search_goes turned n goal next reached steps driver more held its steps2 reached2 a sources readers lt s is count same its_are a_is long moved is_reached front added =
    let cur = get_or reached next 0 in
    let size2 : length steps2 ≡ length steps = long ∙ ap length same in
    let count2 : more ≡ get_or steps cur 0 + 1 = count ∙ ap (λ d. get_or steps d 0 + 1) is in
    let its2 : its ≡ readers_of turned cur = its_are ∙ ap (readers_of turned) is in
    let moved2 : (q : ℕ) → q < length steps → get_or steps2 q 0 ≡ reached_in (has (readers_of turned cur) q) (get_or steps cur 0 + 1) (get_or steps q 0) = λ q h. (
    let l = ap length same in
    moved q (omega arith) ∙ ap (λ l. reached_in (has l q) more (get_or held q 0)) its2 ∙ ap (λ m. reached_in (has (readers_of turned cur) q) m (get_or held q 0)) count2 ∙ ap (λ l. reached_in (has (readers_of turned cur) q) (get_or steps cur 0 + 1) (get_or l q 0)) same) in
    let done = search_step turned n goal next reached steps reached2 steps2 sources readers lt s size2 moved2 is_reached front (λ i lo hi. added i lo hi ∙ count2) in
    let P : List ℕ → Type 0 = Searching turned n goal (next + 1) reached2 in
    subst P (sym (written steps2 steps a (a_is ∙ sym size2))) done

pub next_reached : (turned : List Feed) (n goal next : ℕ) (reached steps : List ℕ) (driver : ℕ) → next < length reached → Searching turned n goal next reached steps → driver ≡ get_or reached next driver → (driver ≡ get_or reached next 0) × (driver < n) × (next < n)
next_reached turned n goal next reached steps driver lt s is =
    let e = is ∙ get_or_any reached next driver 0 lt in
    let o = s.is_reached.only (get_or reached next 0) (has_at reached next 0 lt) in
    let r = s.is_reached.room in
    (e, omega (arith, o.0, s.size), omega (arith, s.size))

-- none is reached at first
pub reached_none : (n : ℕ) (zeros none : List ℕ) → zeros ≡ replicate n 0 → none ≡ [] → IsReached zeros none
reached_none n zeros none are empty =
    let P : List ℕ → Type 0 = IsReached zeros in
    subst P (sym empty) (record {
      all = λ q h. absurd (h (get_or_zeros n q zeros are));
      only = λ q h. absurd (let e : false ≡ true = h in cc);
      room = (let e = absent_nil (length zeros) in omega arith);
    })

pub held_none : (n : ℕ) (zeros none held : List ℕ) → zeros ≡ replicate n 0 → none ≡ [] → held ≡ zeros → IsReached held none
held_none n zeros none held are empty same = let P : List ℕ → Type 0 = λ l. IsReached l none in subst P (sym same) (reached_none n zeros none are empty)

pub held_same : (steps held reached : List ℕ) → held ≡ steps → IsReached steps reached → IsReached held reached
held_same steps held reached same r = let P : List ℕ → Type 0 = λ l. IsReached l reached in subst P (sym same) r
