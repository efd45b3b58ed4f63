-- Cycles of drivers, where it is known which driver feeds which.
use Rattle.std.specs.Prelude.{◌≡◌, ℕ, ◌<◌, ◌≤◌, Bool, true, ◌⊎◌, List, [], ◌∷◌, length, All, slice_index}
use Rattle.vod_level.specs.declared.types.OrderFault.{OrderFault}
use Rattle.vod_level.specs.declared.types.OrderFault.TheVariants.{Cycle, Memory}

-- each feeds the next, from a driver over others to a last one
abbrev pub Chain : (ℕ → ℕ → Bool) → ℕ → List ℕ → ℕ → Type 0
Chain feeds p [] q = feeds p q ≡ true
Chain feeds p (d ∷ ds) q = (feeds p d ≡ true) × Chain feeds d ds q

-- each feeds the next, and the last feeds the first
abbrev pub IsCycle : (ℕ → ℕ → Bool) → List ℕ → Type 0
IsCycle feeds [] = ⊥
IsCycle feeds (d ∷ ds) = Chain feeds d ds d

-- the first number of a list
abbrev pub first : List ℕ → ℕ
first ds = slice_index ds 0

-- not above another list, when compared number by number
abbrev pub IsAtMost : List ℕ → List ℕ → Type 0
IsAtMost [] ds = Unit {0}
IsAtMost (c ∷ cs) [] = ⊥
IsAtMost (c ∷ cs) (d ∷ ds) = (c < d) ⊎ ((c ≡ d) × IsAtMost cs ds)

-- the shortest cycle that begins with the least driver on a cycle, and the least of these when compared number by number
pub record IsLeastCycle (feeds : ℕ → ℕ → Bool) (ds : List ℕ) : Type 0 where
  pub cycle : IsCycle feeds ds
  pub lowest : (es : List ℕ) → IsCycle feeds es → All (λ e. first ds ≤ e) es
  pub shortest : (es : List ℕ) → IsCycle feeds es → first es ≡ first ds → length ds ≤ length es
  pub least : (es : List ℕ) → IsCycle feeds es → first es ≡ first ds → length es ≡ length ds → IsAtMost ds es

-- why drivers have no order
abbrev pub IsCause : (ℕ → ℕ → Bool) → OrderFault → Type 0
IsCause feeds (Cycle ds) = IsLeastCycle feeds ds
IsCause feeds Memory = Unit {0}
