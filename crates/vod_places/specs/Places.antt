-- The places where a rule is offended, and the least of them.
use Rattle.std.specs.Prelude.{◌≡◌, ◌≤◌, ℕ, min, Bool, Option, None, Some, List, [], ◌∷◌, ◌++◌, All, if◌then◌else◌}
use Rattle.std.specs.List.{Contains}

-- the sooner of two places, where there are both
abbrev pub sooner : Option ℕ → Option ℕ → Option ℕ
sooner None b = b
sooner (Some p) None = Some p
sooner (Some p) (Some q) = Some (min p q)

-- the least place of a list
abbrev pub least : List ℕ → Option ℕ
least [] = None
least (p ∷ ps) = sooner (Some p) (least ps)

-- a place, where a test says so
abbrev pub place_if : Bool → ℕ → List ℕ
place_if test p = if test then p ∷ [] else []

-- the places that a function of the items before an item and of the item gives
abbrev pub each_after : {A : Type 0} → (List A → A → List ℕ) → List A → List A → List ℕ
each_after f earlier [] = []
each_after f earlier (x ∷ xs) = f earlier x ++ each_after f (earlier ++ x ∷ []) xs

-- a place is the least of a list: it is in the list, and none there is below it
abbrev pub IsLeast : List ℕ → Option ℕ → Type 0
IsLeast ps None = ps ≡ []
IsLeast ps (Some p) = Contains ps p × All (λ q. p ≤ q) ps
