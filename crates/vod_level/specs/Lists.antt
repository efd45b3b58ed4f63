-- Feeds and ranks as lists.
use Rattle.std.specs.Prelude.{ℕ, zero, suc, Bool, ◌&&◌, ◌==◌, List, [], ◌∷◌, ◌++◌, map}
use Rattle.std.specs.List.{list_any}
use Rattle.vod_fanout.specs.declared.Feed.{Feed}
use Rattle.vod_fanout.specs.FanOut.{readers_of}
use Rattle.vod_level.specs.declared.types.Rank.{Rank}
use Rattle.vod_level.specs.Order.{rank}

abbrev pub feed : ℕ → ℕ → Feed
feed source reader = record { source = source; reader = reader }

-- whether a number is in a list
abbrev pub has : List ℕ → ℕ → Bool
has xs x = list_any (λ y. y == x) xs

abbrev pub is_feed : ℕ → ℕ → Feed → Bool
is_feed p q f = (f.source == p) && (f.reader == q)

-- whether a feed is in a list
abbrev pub has_feed : List Feed → ℕ → ℕ → Bool
has_feed fs p q = list_any (is_feed p q) fs

-- each driver as a reader of its level
abbrev pub by_levels : ℕ → List ℕ → List Feed
by_levels d [] = []
by_levels d (level ∷ levels) = feed level d ∷ by_levels (suc d) levels

-- the readers of n levels from one on, with their levels
abbrev pub ranks_of : List Feed → ℕ → ℕ → List Rank
ranks_of fs level zero = []
ranks_of fs level (suc n) = map (λ d. rank d level) (readers_of fs level) ++ ranks_of fs (suc level) n
