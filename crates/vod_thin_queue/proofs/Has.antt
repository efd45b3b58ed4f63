-- Whether a list of numbers has one.
use Rattle.std.proofs.Common.{◌≡◌, ℕ, ◌<◌, ◌==◌, subst, ◌||◌, Bool, true, false, List, [], ◌∷◌, ◌++◌, length, get_or, refl, ⊎_elim, ap, ◌∙◌, All, eq-eqb}
use Rattle.std.proofs.lemmas.Bool.{or_cases, eqb-true}
use Rattle.std.proofs.lemmas.List.Elements.{All-head, All-tail}
use Rattle.std.proofs.lemmas.List.Folds.{list_any-append, list_any_at}
use Rattle.vod_thin_design.specs.Netlist.{has}

pub or-false : (b : Bool) → (b || false) ≡ b
or-false true = refl
or-false false = refl

pub or-true : (b : Bool) → (b || true) ≡ true
or-true true = refl
or-true false = refl

-- what holds of each number holds of one that the list has
pub All-has : (P : ℕ → Type 0) (ns : List ℕ) (n : ℕ) → All P ns → has ns n ≡ true → P n
All-has P [] n all h = absurd (cc)
All-has P (m ∷ ns) n all h =
    ⊎_elim (λ here. subst P (eqb-true m n here) (All-head P m ns all)) (λ later. All-has P ns n (All-tail P m ns all) later) (or_cases (m == n) (has ns n) h)

pub has-append : (ms ns : List ℕ) (n : ℕ) → has (ms ++ ns) n ≡ (has ms n || has ns n)
has-append ms ns n = list_any-append (λ m. m == n) ms ns

pub has-push : (ns : List ℕ) (m n : ℕ) → has (ns ++ m ∷ []) n ≡ (has ns n || (m == n))
has-push ns m n = has-append ns (m ∷ []) n ∙ ap (λ b. has ns n || b) (or-false (m == n))

-- a list has the number at each of its places
pub has-get_or : (ns : List ℕ) (i d : ℕ) → i < length ns → has ns (get_or ns i d) ≡ true
has-get_or ns i d h = list_any_at (λ m. m == get_or ns i d) ns i d h (eq-eqb (get_or ns i d) (get_or ns i d) refl)
