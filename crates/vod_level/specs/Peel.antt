-- What peeling keeps: drivers are taken away once all that feed them are.
use Rattle.std.specs.Prelude.{◌≡◌, ◌≢◌, ℕ, zero, suc, max, ◌+◌, ◌≤◌, ◌<◌, Bool, true, false, ◌&&◌, not, ◌==◌, ◌⊎◌, List, [], ◌∷◌, ◌++◌, length, take, slice_index, if◌then◌else◌}
use Rattle.vod_fanout.specs.declared.Feed.{Feed}
use Rattle.vod_level.specs.Lists.{has, has_feed}

-- a number that counts what is so
abbrev pub one_if : Bool → ℕ
one_if true = 1
one_if false = 0

-- how often a number is in a list
abbrev pub times : List ℕ → ℕ → ℕ
times [] x = 0
times (y ∷ ys) x = one_if (y == x) + times ys x

-- how many feeds a driver has from those that aren't taken away
abbrev pub waits : List ℕ → List Feed → ℕ → ℕ
waits done [] q = 0
waits done (f ∷ fs) q = one_if ((f.reader == q) && not (has done f.source)) + waits done fs q

-- how many of n numbers aren't in a list
abbrev pub absent : ℕ → List ℕ → ℕ
absent zero xs = 0
absent (suc n) xs = absent n xs + one_if (not (has xs n))

-- the level of a driver behind one more, where that feeds it
abbrev pub raised : Bool → ℕ → ℕ → ℕ
raised true level old = max old (level + 1)
raised false level old = old

-- a driver joins those that are ready where it waits for none
abbrev pub added_if_none : ℕ → ℕ → List ℕ → List ℕ
added_if_none driver left ready = if left == 0 then ready ++ driver ∷ [] else ready

-- those that wait for none are ready, each once
pub record IsReady (left ready : List ℕ) : Type 0 where
  pub all : (q : ℕ) → q < length left → slice_index left q ≡ 0 → has ready q ≡ true
  pub only : (q : ℕ) → has ready q ≡ true → (q < length left) × (slice_index left q ≡ 0)
  pub room : length ready + absent (length left) ready ≡ length left

-- what holds between two drivers that are taken away
pub record Peeling (edges : List Feed) (n next : ℕ) (ready levels left : List ℕ) : Type 0 where
  pub levels_size : length levels ≡ n
  pub left_size : length left ≡ n
  pub within : next ≤ length ready
  pub waiting : (q : ℕ) → q < n → slice_index left q ≡ waits (take next ready) edges q
  pub is_ready : IsReady left ready
  pub low : (q : ℕ) → slice_index levels q ≤ next
  pub rises : (p q : ℕ) → has_feed edges p q ≡ true → has (take next ready) p ≡ true → slice_index levels p < slice_index levels q
  pub least : (q : ℕ) → (slice_index levels q ≡ 0) ⊎ ((p : ℕ) × (has_feed edges p q ≡ true) × (has (take next ready) p ≡ true) × (slice_index levels q ≡ slice_index levels p + 1))

-- the levels of those that could be taken away, which are those with nothing left; each other one waits for another
pub record IsPeeled (edges : List Feed) (n : ℕ) (levels left : List ℕ) : Type 0 where
  pub levels_size : length levels ≡ n
  pub left_size : length left ≡ n
  pub low : (q : ℕ) → slice_index levels q ≤ n
  pub behind : (p q : ℕ) → has_feed edges p q ≡ true → slice_index left q ≡ 0 → (slice_index left p ≡ 0) × (slice_index levels p < slice_index levels q)
  pub least : (q : ℕ) → q < n → slice_index left q ≡ 0 → (slice_index levels q ≡ 0) ⊎ ((p : ℕ) × (has_feed edges p q ≡ true) × (slice_index levels q ≡ slice_index levels p + 1))
  pub stuck : (q : ℕ) → slice_index left q ≢ 0 → (p : ℕ) × (has_feed edges p q ≡ true) × (slice_index left p ≢ 0)
