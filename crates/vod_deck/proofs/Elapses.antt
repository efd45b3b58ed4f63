-- How the outcomes go on with one more event.
use Rattle.std.proofs.Common.{◌≡◌, ℕ, ◌≤◌, ◌<◌, inl, inr, List, [], ◌∷◌, ◌++◌, length, take, refl, sym, subst, arith, length-append}
use Rattle.std.proofs.lemmas.List.{take_all, take-append-le}
use Rattle.std.proofs.lemmas.Bool.{cases_lt}
use Rattle.vod_deck.specs.Outcomes.{Outcome, View, From, Elapses, SameOutcomes, Stays}
use Rattle.vod_deck.specs.InMemory.{Event, Disk, IsOutcome, run, fresh, after, stop_view}

pub run-last : (d : Disk) (events : List Event) (e : Event) → run d (events ++ e ∷ []) ≡ after (run d events) e
run-last d [] e = refl
run-last d (x ∷ events) e = run-last (after d x) events e

-- a call that did nothing
pub elapses-still : (first : List ℕ) (events : List Event) (bytes bytes' : List ℕ) (f f' r r' : ℕ) (step : Outcome → Outcome → Type 0) →
    ((c : Outcome) → step c c) → Elapses (stop_view first events bytes f r) (stop_view first events bytes' f' r') step
elapses-still first events bytes bytes' f f' r r' step same = record {
  later = omega arith;
  outcomes = λ c now. (c, now, same c);
  nothing_else = λ t c le left. inl left;
  keeps = λ t c le left. left;
}

pub same-still : (first : List ℕ) (events : List Event) (bytes bytes' : List ℕ) (f f' r r' : ℕ) →
    SameOutcomes (stop_view first events bytes f r) (stop_view first events bytes' f' r')
same-still first events bytes bytes' f f' r r' = record {
  moment = refl;
  may_leave = λ c now. now;
  still_may_leave = λ c now. now;
  left_since = λ t c left. left;
  still_left_since = λ t c left. left;
}

left-before : (first : List ℕ) (events : List Event) (e : Event) (c : Outcome) (k : ℕ) → k ≤ length events →
    IsOutcome (run (fresh first) (take k (events ++ e ∷ []))) c → IsOutcome (run (fresh first) (take k events)) c
left-before first events e c k le left =
    let P : List Event → Type 0 = λ es. IsOutcome (run (fresh first) es) c in
    subst P (take-append-le k events (e ∷ []) le) left

left-after : (first : List ℕ) (events : List Event) (e : Event) (c : Outcome) (k : ℕ) → k ≤ length events →
    IsOutcome (run (fresh first) (take k events)) c → IsOutcome (run (fresh first) (take k (events ++ e ∷ []))) c
left-after first events e c k le left =
    let P : List Event → Type 0 = λ es. IsOutcome (run (fresh first) es) c in
    subst P (sym (take-append-le k events (e ∷ []) le)) left

left-last : (first : List ℕ) (events : List Event) (e : Event) (c : Outcome) (k : ℕ) → length events < k →
    IsOutcome (run (fresh first) (take k (events ++ e ∷ []))) c → IsOutcome (after (run (fresh first) events) e) c
left-last first events e c k le left =
    let P : List Event → Type 0 = λ es. IsOutcome (run (fresh first) es) c in
    let Q : Disk → Type 0 = λ d. IsOutcome d c in
    let all : take k (events ++ e ∷ []) ≡ events ++ e ∷ [] = take_all k (events ++ e ∷ []) (omega (arith, length-append events (e ∷ []))) in
    subst Q (run-last (fresh first) events e) (subst P all left)

-- one event
pub elapses-event : (first : List ℕ) (events : List Event) (e : Event) (bytes bytes' : List ℕ) (f f' r r' : ℕ) (step : Outcome → Outcome → Type 0) →
    ((c : Outcome) → IsOutcome (after (run (fresh first) events) e) c → From (IsOutcome (run (fresh first) events)) step c) →
    Elapses (stop_view first events bytes f r) (stop_view first (events ++ e ∷ []) bytes' f' r') step
elapses-event first events e bytes bytes' f f' r r' step one = record {
  later = omega (arith, length-append events (e ∷ []));
  outcomes = λ c now.
      let Q : Disk → Type 0 = λ d. IsOutcome d c in
      one c (subst Q (run-last (fresh first) events e) now);
  nothing_else = λ t c le left.
      elim (cases_lt (length events) left.0) [
        | inl past ↦ inr (one c (left-last first events e c left.0 past left.3))
        | inr within ↦ inl (left.0, left.1, within, left-before first events e c left.0 within left.3)
      ];
  keeps = λ t c le left. (left.0, left.1, omega (arith, left.2, length-append events (e ∷ [])), left-after first events e c left.0 left.2 left.3);
}

-- one call and then one that only takes outcomes away
pub elapses-then : (old mid new : View) (step : Outcome → Outcome → Type 0) →
    Elapses old mid step → Elapses mid new Stays → Elapses old new step
elapses-then old mid new step first second =
    let kept : (c : Outcome) → From mid.may_leave Stays c → mid.may_leave c =
    λ c from. let P : Outcome → Type 0 = mid.may_leave in subst P (sym from.2) from.1 in
    record {
      later = omega (arith, first.later, second.later);
      outcomes = λ c now. first.outcomes c (kept c (second.outcomes c now));
      nothing_else = λ t c le left.
          elim (second.nothing_else t c (omega (arith, le, first.later)) left) [
            | inl since ↦ first.nothing_else t c le since
            | inr from ↦ inr (first.outcomes c (kept c from))
          ];
      keeps = λ t c le left. second.keeps t c (omega (arith, le, first.later)) (first.keeps t c le left);
    }
