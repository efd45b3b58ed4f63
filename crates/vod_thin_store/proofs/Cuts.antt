-- Texts that are joined, and cut at a byte.
use Rattle.std.proofs.Common.{◌≡◌, ◌≢◌, ℕ, ◌⊎◌, inl, inr, List, [], ◌∷◌, ◌++◌, refl, sym, ap, ◌∙◌}

-- the byte isn't in the text
abbrev pub Lacks : ℕ → List ℕ → Type 0
Lacks b [] = Unit {0}
Lacks b (c ∷ cs) = (c ≢ b) × Lacks b cs

pub lacks-append : (b : ℕ) (xs ys : List ℕ) → Lacks b xs → Lacks b ys → Lacks b (xs ++ ys)
lacks-append b [] ys front back = back
lacks-append b (x ∷ xs) ys front back = (front.0, lacks-append b xs ys front.1 back)

pub lacks-not : (b : ℕ) (xs ys : List ℕ) → Lacks b (xs ++ b ∷ ys) → ⊥
lacks-not b [] ys lacks = lacks.0 refl
lacks-not b (x ∷ xs) ys lacks = lacks-not b xs ys lacks.1

-- a text whose first b stands behind `first` is cut at another b later, or there
pub cut-first : (b : ℕ) (first rest front back : List ℕ) → Lacks b first → first ++ b ∷ rest ≡ front ++ b ∷ back →
    ((front ≡ first) × (back ≡ rest)) ⊎ ((more : List ℕ) × (front ≡ first ++ b ∷ more) × (rest ≡ more ++ b ∷ back))
cut-first b [] rest [] back lacks e = inl (refl, (let same : rest ≡ back = cc in sym same))
cut-first b [] rest (x ∷ front) back lacks e = inr (front, (let same : b ≡ x = cc in ap (λ y. y ∷ front) (sym same)), (let same : rest ≡ front ++ b ∷ back = cc in same))
cut-first b (x ∷ first) rest [] back lacks e = absurd (lacks.0 (let same : x ≡ b = cc in same))
cut-first b (x ∷ first) rest (y ∷ front) back lacks e =
    let head : x ≡ y = cc in
    let tail : first ++ b ∷ rest ≡ front ++ b ∷ back = cc in
    elim (cut-first b first rest front back lacks.1 tail) [
      | inl both ↦ inl ((let same : y ∷ front ≡ x ∷ first = ap (λ z. z ∷ front) (sym head) ∙ ap (λ zs. x ∷ zs) both.0 in same), both.1)
      | inr later ↦ inr (later.0, (let same : y ∷ front ≡ x ∷ (first ++ b ∷ later.0) = ap (λ z. z ∷ front) (sym head) ∙ ap (λ zs. x ∷ zs) later.1 in same), later.2)
    ]

-- of two ways to cut a text in two, one cuts later
pub cut-later : (xs ys zs ws : List ℕ) → xs ++ ys ≡ zs ++ ws → ((m : List ℕ) × (zs ≡ xs ++ m) × (ys ≡ m ++ ws)) ⊎ ((m : List ℕ) × (xs ≡ zs ++ m) × (ws ≡ m ++ ys))
cut-later [] ys zs ws e = inl (zs, refl, e)
cut-later (x ∷ xs) ys [] ws e = inr (x ∷ xs, refl, sym e)
cut-later (x ∷ xs) ys (z ∷ zs) ws e =
    let head : x ≡ z = cc in
    let tail : xs ++ ys ≡ zs ++ ws = cc in
    elim (cut-later xs ys zs ws tail) [
      | inl a ↦ inl (a.0, (let same : z ∷ zs ≡ x ∷ (xs ++ a.0) = ap (λ y. y ∷ zs) (sym head) ∙ ap (λ ys. x ∷ ys) a.1 in same), a.2)
      | inr a ↦ inr (a.0, (let same : x ∷ xs ≡ z ∷ (zs ++ a.0) = ap (λ y. y ∷ xs) head ∙ ap (λ ys. z ∷ ys) a.1 in same), a.2)
    ]
