-- What is read, as it is added to a list.
use Rattle.std.proofs.Common.{◌≡◌, ℕ, ◌+◌, ◌<◌, ◌≤◌, List, [], ◌++◌, length, flat_map, take, get_or, Result, Ok, Err, OnOk, refl, sym, ap, ◌∙◌, append_assoc, arith, zero, suc, ◌∷◌}
use Rattle.vod_design.specs.declared.read.Read.{Read}
use Rattle.vod_design.specs.declared.sized.SizedExpr.{SizedExpr}
use Rattle.vod_design.specs.Reads.{reads}
use Rattle.vod_eval.proofs.Kept.{flat_take}

take_all : {A : Type 0} (xs : List A) (n : ℕ) → length xs ≤ n → take n xs ≡ xs
take_all [] zero h = refl
take_all [] (suc n) h = refl
take_all (x ∷ xs) zero h = absurd (omega arith)
take_all (x ∷ xs) (suc n) h = ap (λ ys. x ∷ ys) (take_all xs n (omega arith))

pub behind : {E : Type 0} (result : Result (Unit {0}) E) (new mid old a b : List Read) → mid ≡ old ++ a → OnOk result (new ≡ mid ++ b) → OnOk result (new ≡ old ++ (a ++ b))
behind (Ok u) new mid old a b e h = h ∙ ap (λ m. m ++ b) e ∙ append_assoc old a b
behind (Err f) new mid old a b e h = tt

pub more : (es : List SizedExpr) (i : ℕ) (e : SizedExpr) (new mid old : List Read) → e ≡ get_or es i e → i < length es → mid ≡ old ++ flat_map reads (take i es) → new ≡ mid ++ reads e
    → new ≡ old ++ flat_map reads (take (i + 1) es)
more es i e new mid old is lt held added =
    added ∙ ap (λ m. m ++ reads e) held ∙ append_assoc old (flat_map reads (take i es)) (reads e) ∙ ap (λ r. old ++ r) (sym (flat_take reads es i e is lt))

pub whole_list : (es : List SizedExpr) (i : ℕ) (new old : List Read) → length es ≤ i → new ≡ old ++ flat_map reads (take i es) → new ≡ old ++ flat_map reads es
whole_list es i new old end held = held ∙ ap (λ x. old ++ flat_map reads x) (take_all es i end)
