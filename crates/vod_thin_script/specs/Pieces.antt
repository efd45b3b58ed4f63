-- Texts that are cut at a byte.
use Rattle.std.specs.Prelude.{◌≡◌, ◌≢◌, ℕ, List, [], ◌∷◌}
use Rattle.std.specs.List.{AllByRecursion}

-- the byte isn't in the text
abbrev pub Lacks : ℕ → List ℕ → Type 0
Lacks b text = AllByRecursion (λ c. c ≢ b) text

-- the text is empty, or begins with the byte
abbrev pub StopsAt : ℕ → List ℕ → Type 0
StopsAt b [] = Unit {0}
StopsAt b (c ∷ cs) = c ≡ b
