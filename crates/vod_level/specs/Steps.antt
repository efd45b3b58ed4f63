-- How many feeds lead from drivers to one of them.
use Rattle.std.specs.Prelude.{◌≡◌, ◌≢◌, ℕ, zero, suc, ◌+◌, ◌≤◌, ◌<◌, Bool, true, false, ◌⊎◌, List, [], ◌∷◌, ◌++◌, ◌==◌, length, map, take, slice_index, slice_set, if◌then◌else◌}
use Rattle.vod_fanout.specs.declared.Feed.{Feed}
use Rattle.vod_level.specs.Lists.{has, has_feed, feed}
use Rattle.vod_level.specs.Peel.{absent}

-- each feed from its reader to its source
abbrev pub turned_feeds : List Feed → List Feed
turned_feeds feeds = map (λ f. feed f.reader f.source) feeds

-- the steps of a driver, where it is reached with so many unless it was
abbrev pub reached_in : Bool → ℕ → ℕ → ℕ
reached_in true count zero = count
reached_in true count (suc old) = suc old
reached_in false count old = old

-- a driver gets so many steps and is reached, unless it was
abbrev pub steps_with : List ℕ → ℕ → ℕ → List ℕ
steps_with steps driver count = if slice_index steps driver == 0 then slice_set steps driver count else steps

abbrev pub reached_with : List ℕ → ℕ → List ℕ → List ℕ
reached_with steps driver reached = if slice_index steps driver == 0 then reached ++ driver ∷ [] else reached

-- those that have steps are reached, each once
pub record IsReached (steps reached : List ℕ) : Type 0 where
  pub all : (q : ℕ) → slice_index steps q ≢ 0 → has reached q ≡ true
  pub only : (q : ℕ) → has reached q ≡ true → (q < length steps) × (slice_index steps q ≢ 0)
  pub room : length reached + absent (length steps) reached ≡ length steps

-- the steps to a goal of those from which feeds lead there, by the turned feeds: 1 more than the fewest of those that they feed
pub record IsSteps (turned : List Feed) (n goal : ℕ) (steps : List ℕ) : Type 0 where
  pub size : length steps ≡ n
  pub last : (p : ℕ) → has_feed turned goal p ≡ true → slice_index steps p ≡ 1
  pub near : (p q : ℕ) → has_feed turned q p ≡ true → slice_index steps q ≢ 0 → (slice_index steps p ≢ 0) × (slice_index steps p ≤ slice_index steps q + 1)
  pub leads : (p : ℕ) → slice_index steps p ≢ 0 → ((slice_index steps p ≡ 1) × (has_feed turned goal p ≡ true)) ⊎ ((q : ℕ) × (has_feed turned q p ≡ true) × (slice_index steps q ≢ 0) × (slice_index steps p ≡ slice_index steps q + 1))

-- what a search keeps, which went on from the first of those that are reached
pub record Searching (turned : List Feed) (n goal next : ℕ) (reached steps : List ℕ) : Type 0 where
  pub size : length steps ≡ n
  pub is_reached : IsReached steps reached
  pub within : next ≤ length reached
  pub low : (q : ℕ) → slice_index steps q ≤ next + 1
  pub last : (p : ℕ) → has_feed turned goal p ≡ true → slice_index steps p ≡ 1
  pub near : (p q : ℕ) → has_feed turned q p ≡ true → has (take next reached) q ≡ true → (slice_index steps p ≢ 0) × (slice_index steps p ≤ slice_index steps q + 1)
  pub leads : (p : ℕ) → slice_index steps p ≢ 0 → ((slice_index steps p ≡ 1) × (has_feed turned goal p ≡ true)) ⊎ ((q : ℕ) × (has_feed turned q p ≡ true) × (slice_index steps q ≢ 0) × (slice_index steps p ≡ slice_index steps q + 1))
  pub rising : (i j : ℕ) → i ≤ j → j < length reached → slice_index steps (slice_index reached i) ≤ slice_index steps (slice_index reached j)
  pub top : (i j : ℕ) → next ≤ i → i < length reached → j < length reached → slice_index steps (slice_index reached j) ≤ slice_index steps (slice_index reached i) + 1

-- the least of some drivers that has so many steps
pub record IsNearest (drivers steps : List ℕ) (count least : ℕ) : Type 0 where
  pub among : has drivers least ≡ true
  pub at : slice_index steps least ≡ count
  pub below : (q : ℕ) → has drivers q ≡ true → slice_index steps q ≡ count → least ≤ q

-- from each driver on to the least of those that it feeds that is one step nearer, up to one that is one step away
abbrev pub IsWalk : (ℕ → ℕ → Bool) → List ℕ → ℕ → List ℕ → Type 0
IsWalk feeds steps d [] = slice_index steps d ≡ 1
IsWalk feeds steps d (next ∷ ds) = (feeds d next ≡ true) × (slice_index steps next ≢ 0) × (slice_index steps d ≡ slice_index steps next + 1) × ((q : ℕ) → feeds d q ≡ true → slice_index steps q ≡ slice_index steps next → next ≤ q) × IsWalk feeds steps next ds

abbrev pub IsRound : (ℕ → ℕ → Bool) → List ℕ → ℕ → List ℕ → Type 0
IsRound feeds steps goal [] = ⊥
IsRound feeds steps goal (d ∷ ds) = (d ≡ goal) × IsWalk feeds steps d ds

-- a round by some steps to its first driver
abbrev pub IsFrom : List Feed → ℕ → ℕ → List ℕ → Type 0
IsFrom feeds n goal cycle = (steps : List ℕ) × IsSteps (turned_feeds feeds) n goal steps × IsRound (has_feed feeds) steps goal cycle
