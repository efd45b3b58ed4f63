-- Drivers that are reached, one more at a time.
use Rattle.std.proofs.Common.{◌≡◌, ◌≢◌, ℕ, zero, suc, ◌+◌, ◌<◌, ◌≤◌, ◌==◌, max, Bool, true, false, ◌||◌, List, [], ◌∷◌, ◌++◌, length, take, get_or, set, refl, sym, subst, ap, ◌∙◌, arith, inl, inr, ne_eqb, eq-eqb, length-append, length-set, get_or-set_same, get_or-set_other}
use Rattle.std.proofs.lemmas.List.{take-append-le, length-take}
use Rattle.std.proofs.lemmas.Bool.{both_ways, cases_lt, cases_eq, false_from_ne_true}
use Rattle.vod_level.specs.Lists.{has}
use Rattle.vod_level.specs.Peel.{absent}
use Rattle.vod_level.specs.Steps.{reached_in, steps_with, reached_with, IsReached}
use Rattle.vod_level.proofs.Counts.{has_push, has_kept, has_new, has_cases, taken, absent_new}

pub at_front : (xs ys : List ℕ) (i : ℕ) → i < length xs → get_or (xs ++ ys) i 0 ≡ get_or xs i 0
at_front [] ys i h = absurd (omega arith)
at_front (x ∷ xs) ys zero h = refl
at_front (x ∷ xs) ys (suc i) h = at_front xs ys i (omega arith)

pub at_end : (xs : List ℕ) (x i : ℕ) → i ≡ length xs → get_or (xs ++ x ∷ []) i 0 ≡ x
at_end [] x zero h = refl
at_end [] x (suc i) h = absurd (omega arith)
at_end (y ∷ xs) x zero h = absurd (omega arith)
at_end (y ∷ xs) x (suc i) h = at_end xs x i (omega arith)

pub reached_again : (b t : Bool) (count old : ℕ) → count ≢ 0 → reached_in t count (reached_in b count old) ≡ reached_in (b || t) count old
reached_again true true zero zero some = refl
reached_again true true (suc c) zero some = refl
reached_again true true count (suc o) some = refl
reached_again true false count zero some = refl
reached_again true false count (suc o) some = refl
reached_again false true count old some = refl
reached_again false false count old some = refl

pub reached_kept : (b : Bool) (count old : ℕ) → old ≢ 0 → reached_in b count old ≡ old
reached_kept true count zero some = absurd (some refl)
reached_kept true count (suc o) some = refl
reached_kept false count old some = refl

pub reached_most : (b : Bool) (count old : ℕ) → reached_in b count old ≤ max count old
reached_most true count zero = omega arith
reached_most true count (suc o) = omega arith
reached_most false count old = omega arith

-- a driver that is new, and one that is not
steps_new : (steps : List ℕ) (d count : ℕ) → get_or steps d 0 ≡ 0 → steps_with steps d count ≡ set steps d count
steps_new steps d count e = let t : (get_or steps d 0 == 0) ≡ true = eq-eqb (get_or steps d 0) 0 e in rw t refl

steps_old : (steps : List ℕ) (d count : ℕ) → get_or steps d 0 ≢ 0 → steps_with steps d count ≡ steps
steps_old steps d count e = let t : (get_or steps d 0 == 0) ≡ false = ne_eqb (get_or steps d 0) 0 e in rw t refl

list_new : (steps : List ℕ) (d : ℕ) (reached : List ℕ) → get_or steps d 0 ≡ 0 → reached_with steps d reached ≡ reached ++ d ∷ []
list_new steps d reached e = let t : (get_or steps d 0 == 0) ≡ true = eq-eqb (get_or steps d 0) 0 e in rw t refl

list_old : (steps : List ℕ) (d : ℕ) (reached : List ℕ) → get_or steps d 0 ≢ 0 → reached_with steps d reached ≡ reached
list_old steps d reached e = let t : (get_or steps d 0 == 0) ≡ false = ne_eqb (get_or steps d 0) 0 e in rw t refl

pub steps_size : (steps : List ℕ) (d count : ℕ) → length (steps_with steps d count) ≡ length steps
steps_size steps d count =
    elim (cases_eq (get_or steps d 0) 0) [
      | inl e ↦ ap length (steps_new steps d count e) ∙ length-set steps d count
      | inr e ↦ ap length (steps_old steps d count e)
    ]

steps_at : (steps : List ℕ) (d count q : ℕ) → d < length steps → get_or (steps_with steps d count) q 0 ≡ reached_in (d == q) count (get_or steps q 0)
steps_at steps d count q inside =
    elim (cases_eq q d) [
      | inl same ↦ (
          let here : (d == q) ≡ true = eq-eqb d q (sym same) in
          let was : get_or steps q 0 ≡ get_or steps d 0 = ap (λ k. get_or steps k 0) same in
          elim (cases_eq (get_or steps d 0) 0) [
            | inl e ↦ ap (λ l. get_or l q 0) (steps_new steps d count e) ∙ ap (λ k. get_or (set steps d count) k 0) same ∙ get_or-set_same steps d count 0 inside ∙ sym (ap (λ b. reached_in b count (get_or steps q 0)) here ∙ ap (reached_in true count) (was ∙ e))
            | inr e ↦ ap (λ l. get_or l q 0) (steps_old steps d count e) ∙ sym (reached_kept (d == q) count (get_or steps q 0) (λ z. e (sym was ∙ z)))
          ])
      | inr other ↦ (
          let there : (d == q) ≡ false = ne_eqb d q (λ r. other (sym r)) in
          let same : get_or (steps_with steps d count) q 0 ≡ get_or steps q 0 = elim (cases_eq (get_or steps d 0) 0) [
            | inl e ↦ ap (λ l. get_or l q 0) (steps_new steps d count e) ∙ get_or-set_other steps d q count 0 other
            | inr e ↦ ap (λ l. get_or l q 0) (steps_old steps d count e)
          ] in
          same ∙ sym (ap (λ b. reached_in b count (get_or steps q 0)) there))
    ]

pub moved_step : (drivers old steps : List ℕ) (i d count : ℕ) → i < length drivers → d ≡ get_or drivers i 0 → d < length steps → count ≢ 0
    → ((q : ℕ) → q < length steps → get_or steps q 0 ≡ reached_in (has (take i drivers) q) count (get_or old q 0))
    → (q : ℕ) → q < length steps → get_or (steps_with steps d count) q 0 ≡ reached_in (has (take (i + 1) drivers) q) count (get_or old q 0)
moved_step drivers old steps i d count lt is inside some held q h =
    let more : has (take (i + 1) drivers) q ≡ (has (take i drivers) q || (d == q)) = ap (λ r. has r q) (taken drivers i 0 lt ∙ ap (λ x. take i drivers ++ x ∷ []) (sym is)) ∙ has_push (take i drivers) d q in
    steps_at steps d count q inside ∙ ap (reached_in (d == q) count) (held q h) ∙ reached_again (has (take i drivers) q) (d == q) count (get_or old q 0) some ∙ ap (λ b. reached_in b count (get_or old q 0)) (sym more)

pub reached_step : (steps reached : List ℕ) (d count : ℕ) → d < length steps → count ≢ 0 → IsReached steps reached → IsReached (steps_with steps d count) (reached_with steps d reached)
reached_step steps reached d count inside some r =
    elim (cases_eq (get_or steps d 0) 0) [
      | inr e ↦ (
          let P : List ℕ → Type 0 = λ l. IsReached l (reached_with steps d reached) in
          let Q : List ℕ → Type 0 = IsReached steps in
          subst P (sym (steps_old steps d count e)) (subst Q (sym (list_old steps d reached e)) r))
      | inl e ↦ (
          let P : List ℕ → Type 0 = λ l. IsReached l (reached_with steps d reached) in
          let Q : List ℕ → Type 0 = IsReached (set steps d count) in
          let new : has reached d ≡ false = false_from_ne_true (has reached d) (λ h. (r.only d h).1 e) in
          let size = length-set steps d count in
          let here = get_or-set_same steps d count 0 inside in
          let now : IsReached (set steps d count) (reached ++ d ∷ []) = record {
            all = λ q h. elim (cases_eq q d) [
              | inl same ↦ ap (has (reached ++ d ∷ [])) same ∙ has_new reached d
              | inr other ↦ has_kept reached d q (r.all q (λ z. h (get_or-set_other steps d q count 0 other ∙ z)))
            ];
            only = λ q h. elim (has_cases reached d q h) [
              | inl old ↦ (
                  let o = r.only q old in
                  let other : q ≢ d = λ same. both_ways (has reached d) new (ap (has reached) (sym same) ∙ old) in
                  (omega (arith, o.0), λ z. o.1 (sym (get_or-set_other steps d q count 0 other) ∙ z)))
              | inr same ↦ (omega arith, λ z. some (sym here ∙ ap (λ k. get_or (set steps d count) k 0) same ∙ z))
            ];
            room = (
                let long = length-append reached (d ∷ []) in
                let less = absent_new (length steps) reached d inside new in
                let other : absent (length (set steps d count)) (reached ++ d ∷ []) ≡ absent (length steps) (reached ++ d ∷ []) = ap (λ n. absent n (reached ++ d ∷ [])) size in
                let room = r.room in
                omega arith);
          } in
          subst P (sym (steps_new steps d count e)) (subst Q (sym (list_new steps d reached e)) now))
    ]

pub front_step : (steps reached old : List ℕ) (d : ℕ) → take (length old) reached ≡ old → take (length old) (reached_with steps d reached) ≡ old
front_step steps reached old d h =
    elim (cases_eq (get_or steps d 0) 0) [
      | inl e ↦ (let size : length old ≤ length reached = omega (arith, length-take (length old) reached, ap length h) in ap (take (length old)) (list_new steps d reached e) ∙ take-append-le (length old) reached (d ∷ []) size ∙ h)
      | inr e ↦ ap (take (length old)) (list_old steps d reached e) ∙ h
    ]

pub added_step : (steps reached old : List ℕ) (d count : ℕ) → d < length steps → count ≢ 0 → ((i : ℕ) → length old ≤ i → i < length reached → get_or steps (get_or reached i 0) 0 ≡ count)
    → (i : ℕ) → length old ≤ i → i < length (reached_with steps d reached) → get_or (steps_with steps d count) (get_or (reached_with steps d reached) i 0) 0 ≡ count
added_step steps reached old d count inside some held i lo hi =
    let kept : i < length reached → get_or (steps_with steps d count) (get_or reached i 0) 0 ≡ count = λ lt. (
    let was = held i lo lt in
    steps_at steps d count (get_or reached i 0) inside ∙ reached_kept (d == get_or reached i 0) count (get_or steps (get_or reached i 0) 0) (λ z. some (sym was ∙ z)) ∙ was) in
    elim (cases_eq (get_or steps d 0) 0) [
      | inl e ↦ (
          let is = list_new steps d reached e in
          let long = ap length is ∙ length-append reached (d ∷ []) in
          elim (cases_lt i (length reached)) [
            | inl lt ↦ ap (λ k. get_or (steps_with steps d count) k 0) (ap (λ l. get_or l i 0) is ∙ at_front reached (d ∷ []) i lt) ∙ kept lt
            | inr ge ↦ (
                let at : get_or (reached_with steps d reached) i 0 ≡ d = ap (λ l. get_or l i 0) is ∙ at_end reached d i (omega arith) in
                ap (λ k. get_or (steps_with steps d count) k 0) at ∙ ap (λ l. get_or l d 0) (steps_new steps d count e) ∙ get_or-set_same steps d count 0 inside)
          ])
      | inr e ↦ (
          let is = list_old steps d reached e in
          let long = ap length is in
          ap (λ k. get_or (steps_with steps d count) k 0) (ap (λ l. get_or l i 0) is) ∙ kept (omega arith))
    ]

-- what holds after some of the drivers
pub record Reached (drivers old steps old_reached reached : List ℕ) (i count : ℕ) : Type 0 where
  pub moved : (q : ℕ) → q < length steps → get_or steps q 0 ≡ reached_in (has (take i drivers) q) count (get_or old q 0)
  pub is_reached : IsReached steps reached
  pub front : take (length old_reached) reached ≡ old_reached
  pub added : (i : ℕ) → length old_reached ≤ i → i < length reached → get_or steps (get_or reached i 0) 0 ≡ count

pub reach_loop : (drivers old steps reached old_reached : List ℕ) (i count : ℕ) (steps2 reached2 : List ℕ) → i < length drivers → get_or drivers i 0 < length steps → count ≢ 0
    → steps2 ≡ steps_with steps (get_or drivers i 0) count → reached2 ≡ reached_with steps (get_or drivers i 0) reached
    → ((q : ℕ) → q < length steps → get_or steps q 0 ≡ reached_in (has (take i drivers) q) count (get_or old q 0)) → IsReached steps reached → take (length old_reached) reached ≡ old_reached
    → ((i : ℕ) → length old_reached ≤ i → i < length reached → get_or steps (get_or reached i 0) 0 ≡ count) → Reached drivers old steps2 old_reached reached2 (i + 1) count
reach_loop drivers old steps reached old_reached i count steps2 reached2 lt inside some e1 e2 moved is_reached front added =
    let d = get_or drivers i 0 in
    let size = steps_size steps d count in
    let done : Reached drivers old (steps_with steps d count) old_reached (reached_with steps d reached) (i + 1) count = record {
      moved = λ q h. moved_step drivers old steps i d count lt refl inside some moved q (omega arith);
      is_reached = reached_step steps reached d count inside some is_reached;
      front = front_step steps reached old_reached d front;
      added = added_step steps reached old_reached d count inside some added;
    } in
    let P : List ℕ → Type 0 = λ l. Reached drivers old l old_reached (reached_with steps d reached) (i + 1) count in
    let Q : List ℕ → Type 0 = λ l. Reached drivers old steps2 old_reached l (i + 1) count in
    subst Q (sym e2) (subst P (sym e1) done)
