-- What signals and items bring, one by one.
use Rattle.std.proofs.Common.{◌≡◌, ℕ, suc, ◌+◌, ◌<◌, List, [], ◌∷◌, ◌++◌, Option, None, Some, length, map, take, drop, get_or, slice_get, refl, sym, ap, ◌∙◌, append_assoc, arith, ◌≤◌, ◌⊎◌, inl, inr}
use Rattle.std.specs.List.{flat_map, enumerate_from}
use Rattle.std.proofs.lemmas.List.{drop_more, take_more}
use Rattle.std.proofs.lemmas.Option.{slice_get_within, get_or_from_slice_get, slice_get_cases}
use Rattle.vod_thin_design.specs.declared.thin.Input.{Input}
use Rattle.vod_thin_design.specs.declared.thin.Initial.{Initial}
use Rattle.vod_thin.specs.declared.names.Kind.{Kind}
use Rattle.vod_thin.specs.Netlists.{input_of, initial_of}
use Rattle.vod_thin.specs.View.{input_by, input_at, initial_by, initial_at}

-- the element at a place, and those behind
pub drop_got : {X : Type 0} (xs : List X) (i : ℕ) (x : X) → slice_get xs i ≡ Some x → drop i xs ≡ x ∷ drop (i + 1) xs
drop_got xs i x e = drop_more xs i x (slice_get_within xs i x e) ∙ ap (λ y. y ∷ drop (i + 1) xs) (get_or_from_slice_get xs i x x e)

pub take_got : {X : Type 0} (xs : List X) (i : ℕ) (x : X) → slice_get xs i ≡ Some x → take (i + 1) xs ≡ take i xs ++ x ∷ []
take_got xs i x e = take_more xs i x (slice_get_within xs i x e) ∙ ap (λ y. take i xs ++ y ∷ []) (get_or_from_slice_get xs i x x e)

got_within : {X : Type 0} (xs : List X) (i : ℕ) → i < length xs → slice_get xs i ≡ None → ⊥
got_within {X = X} xs i lt e = by (slice_get_cases xs i).1
  where
    by : ((x : X) × (i < length xs) × (slice_get xs i ≡ Some x) × (get_or xs i x ≡ x)) ⊎ ((length xs ≤ i) × (slice_get xs i ≡ None)) → ⊥
    by (inl (x, within, there, same)) = cc
    by (inr (past, none)) = omega arith

-- what signals bring from a number on
abbrev pub inputs_from : List (List ℕ) → ℕ → List (List ℕ × Kind) → List Input
inputs_from waited number signals = flat_map (λ e. input_of waited e.0 e.1.0 e.1.1) (enumerate_from number signals)

abbrev pub initials_from : ℕ → List (List ℕ × Kind) → List Initial
initials_from number signals = flat_map (λ e. initial_of e.0 e.1.1) (enumerate_from number signals)

pub input_round : (waited : List (List ℕ)) (signals : List (List ℕ × Kind)) (n : ℕ) (items more : List Input) → n < length signals → more ≡ items ++ input_at waited signals n
    → more ++ inputs_from waited (n + 1) (drop (n + 1) signals) ≡ items ++ inputs_from waited n (drop n signals)
input_round waited signals n items more lt e = by (slice_get signals n) refl
  where
    by : (got : Option (List ℕ × Kind)) → slice_get signals n ≡ got → more ++ inputs_from waited (n + 1) (drop (n + 1) signals) ≡ items ++ inputs_from waited n (drop n signals)
    by None g = absurd (got_within signals n lt g)
    by (Some x) g =
        ap (λ (ys : List Input). ys ++ inputs_from waited (n + 1) (drop (n + 1) signals)) (e ∙ ap (λ o. items ++ input_by waited n o) g)
        ∙ append_assoc items (input_of waited n x.0 x.1) (inputs_from waited (n + 1) (drop (n + 1) signals))
        ∙ ap (λ (es : List (List ℕ × Kind)). items ++ inputs_from waited n es) (sym (drop_got signals n x g))

pub initial_round : (signals : List (List ℕ × Kind)) (n : ℕ) (items more : List Initial) → n < length signals → more ≡ items ++ initial_at signals n
    → more ++ initials_from (n + 1) (drop (n + 1) signals) ≡ items ++ initials_from n (drop n signals)
initial_round signals n items more lt e = by (slice_get signals n) refl
  where
    by : (got : Option (List ℕ × Kind)) → slice_get signals n ≡ got → more ++ initials_from (n + 1) (drop (n + 1) signals) ≡ items ++ initials_from n (drop n signals)
    by None g = absurd (got_within signals n lt g)
    by (Some x) g =
        ap (λ (ys : List Initial). ys ++ initials_from (n + 1) (drop (n + 1) signals)) (e ∙ ap (λ o. items ++ initial_by n o) g)
        ∙ append_assoc items (initial_of n x.1) (initials_from (n + 1) (drop (n + 1) signals))
        ∙ ap (λ (es : List (List ℕ × Kind)). items ++ initials_from n es) (sym (drop_got signals n x g))
