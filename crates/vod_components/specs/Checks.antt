-- What a numbering of components is checked for.
use Rattle.std.specs.Prelude.{◌≡◌, ℕ, ◌<◌, ◌≤◌, Bool, true, ◌⊎◌, ◌==◌, List, [], length, map, All, slice_index, slice_index_or}
use Rattle.std.specs.List.{list_any}
use Rattle.vod_fanout.specs.declared.Feed.{Feed}
use Rattle.vod_components.specs.declared.search.Search.{Search}

abbrev pub turned : Feed → Feed
turned f = record { source = f.reader; reader = f.source }

-- each edge the other way
abbrev pub turned_edges : List Feed → List Feed
turned_edges edges = map turned edges

abbrev pub has : List ℕ → ℕ → Bool
has xs x = list_any (λ y. y == x) xs

-- no node has a lower number than one that an edge of it leads to
abbrev pub Falls : List ℕ → List Feed → Type 0
Falls numbers edges = All (λ f. slice_index numbers f.reader ≤ slice_index numbers f.source) edges

-- one of these nodes is of a node's component and was found before it
abbrev pub HasEarlier : List ℕ → List ℕ → List ℕ → ℕ → Type 0
HasEarlier next numbers found p = (q : ℕ) × (has next q ≡ true) × (slice_index numbers q ≡ slice_index numbers p) × (slice_index found q < slice_index found p)

-- a node is the one of its component
abbrev pub IsFirst : List ℕ → List ℕ → ℕ → Type 0
IsFirst numbers nodes p = (slice_index numbers p < length nodes) × (slice_index nodes (slice_index numbers p) ≡ p)

-- a node is the one of its component, or leads to one of it that was found before
abbrev pub IsLed : List ℕ → List ℕ → List ℕ → List ℕ → ℕ → Type 0
IsLed next numbers found nodes p = IsFirst numbers nodes p ⊎ HasEarlier next numbers found p

abbrev pub AreLed : List (List ℕ) → List ℕ → List ℕ → List ℕ → Type 0
AreLed table numbers found nodes = (p : ℕ) → p < length table → IsLed (slice_index_or table p []) numbers found nodes p

-- the node of each component is of it
abbrev pub AreFirsts : List ℕ → List ℕ → Type 0
AreFirsts numbers nodes = (k : ℕ) → k < length nodes → (slice_index nodes k < length numbers) × (slice_index numbers (slice_index nodes k) ≡ k)

-- two searches and the edges pass all checks
pub record IsChecked (edges : List Feed) (forth back : List (List ℕ)) (first second : Search) : Type 0 where
  pub falls : Falls second.trees.items edges
  pub firsts : AreFirsts second.trees.items second.firsts.items
  pub led : AreLed forth second.trees.items first.found.items second.firsts.items
  pub followed : AreLed back second.trees.items second.found.items second.firsts.items
