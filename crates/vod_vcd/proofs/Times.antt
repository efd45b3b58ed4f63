-- Times of moments that don't fall, one after another.
use Rattle.std.proofs.Common.{◌≡◌, ℕ, suc, ◌<◌, ◌≤◌, List, [], ◌∷◌, length, map, All, arith, get_or}
use Rattle.std.proofs.lemmas.List.{length-map}
use Rattle.std.specs.List.Sorted.{IsNonDecreasing}
use Rattle.vod_vcd.specs.Dump.{Moment, last_moment}

-- no moment is before a time
abbrev pub AllFrom : ℕ → List Moment → Type 0
AllFrom time [] = Unit {0}
AllFrom time (moment ∷ moments) = (time ≤ moment.time) × AllFrom time moments

-- no moment is past a time
abbrev pub AllTo : ℕ → List Moment → Type 0
AllTo time [] = Unit {0}
AllTo time (moment ∷ moments) = (moment.time ≤ time) × AllTo time moments

-- no moment is before an earlier one
abbrev pub NotFalling : List Moment → Type 0
NotFalling [] = Unit {0}
NotFalling (moment ∷ moments) = AllFrom moment.time moments × NotFalling moments

-- each moment has so many values
abbrev pub SameLength : ℕ → List Moment → Type 0
SameLength n [] = Unit {0}
SameLength n (moment ∷ moments) = (length moment.values ≡ n) × SameLength n moments

pub AllFrom-weaker : (early late : ℕ) (moments : List Moment) → early ≤ late → AllFrom late moments → AllFrom early moments
AllFrom-weaker early late [] h all = tt
AllFrom-weaker early late (moment ∷ moments) h all = (omega (arith, all.0), AllFrom-weaker early late moments h all.1)

-- times that don't fall are up to the last
pub AllTo-last_moment : (time : ℕ) (moments : List Moment) → NotFalling moments → AllFrom time moments →
    (time ≤ last_moment time moments) × AllTo (last_moment time moments) moments
AllTo-last_moment time [] sorted all = (omega arith, tt)
AllTo-last_moment time (moment ∷ moments) sorted all =
    let later = AllTo-last_moment moment.time moments sorted.1 sorted.0 in (omega (arith, later.0, all.0), (later.0, later.1))

AllFrom-by_index : (time : ℕ) (moments : List Moment) → ((k : ℕ) → k < length moments → time ≤ get_or (map (λ m. m.time) moments) k 0) → AllFrom time moments
AllFrom-by_index time [] all = tt
AllFrom-by_index time (moment ∷ moments) all = (all 0 (omega arith), AllFrom-by_index time moments (λ k h. all (suc k) (omega arith)))

pub NotFalling-from : (moments : List Moment) → IsNonDecreasing (map (λ m. m.time) moments) → NotFalling moments
NotFalling-from [] sorted = tt
NotFalling-from (moment ∷ moments) sorted = (
  AllFrom-by_index moment.time moments (λ k h. sorted 0 (suc k) 0 (omega arith) (omega (arith, h, length-map moments (λ (m : Moment). m.time)))),
  NotFalling-from moments (λ i j d p q. sorted (suc i) (suc j) d (omega arith) (omega arith)),
)

pub AllFrom-from : (moments : List Moment) → All (λ m. 0 < m.time) moments → AllFrom 1 moments
AllFrom-from [] all = tt
AllFrom-from (moment ∷ moments) all = (all 0 moment (omega arith), AllFrom-from moments (λ k d h. all (suc k) d (omega arith)))

pub SameLength-from : (n : ℕ) (moments : List Moment) → All (λ m. length m.values ≡ n) moments → SameLength n moments
SameLength-from n [] all = tt
SameLength-from n (moment ∷ moments) all = (all 0 moment (omega arith), SameLength-from n moments (λ k d h. all (suc k) d (omega arith)))
