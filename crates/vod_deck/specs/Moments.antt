-- This moment is one of those since an earlier one, and since this one there is no other.
use Rattle.std.specs.Prelude.{◌≡◌, ℕ, ◌≤◌, List, length, take}
use Rattle.std.proofs.Common.{sym, subst, arith}
use Rattle.std.proofs.lemmas.List.{take_all}
use Rattle.vod_deck.specs.Outcomes.{Outcome}
use Rattle.vod_deck.specs.InMemory.{MemView, Event, IsOutcome, LeftSince, run, fresh, told, history}

at_the_end : (first : List ℕ) (events : List Event) (t : ℕ) (c : Outcome) → t ≤ length events →
    IsOutcome (run (fresh first) events) c → LeftSince first events t c
at_the_end first events t c le now =
    let all : take (length events) events ≡ events = take_all (length events) events (omega arith) in
    let P : List Event → Type 0 = λ es. IsOutcome (run (fresh first) es) c in
    (length events, le, omega arith, subst P (sym all) now)

only_the_end : (first : List ℕ) (events : List Event) (c : Outcome) → LeftSince first events (length events) c →
    IsOutcome (run (fresh first) events) c
only_the_end first events c (k, from, to, left) =
    let all : take k events ≡ events = take_all k events from in
    let P : List Event → Type 0 = λ es. IsOutcome (run (fresh first) es) c in
    subst P all left

pub told-counts_now : (deck : MemView) (t : ℕ) (c : Outcome) → t ≤ (told deck).moment → (told deck).may_leave c → (told deck).left_since t c
told-counts_now deck t c le now = at_the_end deck.first (history deck) t c le now

pub told-only_now : (deck : MemView) (c : Outcome) → (told deck).left_since (told deck).moment c → (told deck).may_leave c
told-only_now deck c left = only_the_end deck.first (history deck) c left
