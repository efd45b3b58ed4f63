-- Which nodes lead to each other.
use Rattle.std.specs.Prelude.{◌≡◌, ◌↔◌, ℕ, ◌<◌, ◌≤◌, Bool, true, ◌&&◌, ◌==◌, List, [], ◌∷◌, length, slice_index}
use Rattle.std.specs.List.{list_any}
use Rattle.vod_fanout.specs.declared.Feed.{Feed}

-- whether an edge goes from one node to another
abbrev pub is_edge : ℕ → ℕ → Feed → Bool
is_edge p q f = (f.source == p) && (f.reader == q)

abbrev pub has_edge : List Feed → ℕ → ℕ → Bool
has_edge edges p q = list_any (is_edge p q) edges

-- edges lead from a node over others to a last one
abbrev pub IsPath : List Feed → ℕ → List ℕ → ℕ → Type 0
IsPath edges p [] q = p ≡ q
IsPath edges p (d ∷ ds) q = (has_edge edges p d ≡ true) × IsPath edges d ds q

-- a node leads to another, or is the same
abbrev pub LeadsTo : List Feed → ℕ → ℕ → Type 0
LeadsTo edges p q = (ds : List ℕ) × IsPath edges p ds q

-- the number of each of n nodes' component, and a node of each component: two nodes have one number exactly where each leads to the
-- other, and no node has a lower number than one that it leads to
pub record IsComponents (edges : List Feed) (n : ℕ) (numbers nodes : List ℕ) : Type 0 where
  pub size : length numbers ≡ n
  pub same : (p q : ℕ) → p < n → q < n → (slice_index numbers p ≡ slice_index numbers q) ↔ (LeadsTo edges p q × LeadsTo edges q p)
  pub behind : (p q : ℕ) → p < n → LeadsTo edges p q → slice_index numbers q ≤ slice_index numbers p
  pub within : (p : ℕ) → p < n → slice_index numbers p < length nodes
  pub node : (k : ℕ) → k < length nodes → (slice_index nodes k < n) × (slice_index numbers (slice_index nodes k) ≡ k)
