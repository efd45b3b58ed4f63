-- Values overwritten by the changes of later slots.
use Rattle.std.proofs.Common.{◌≡◌, ℕ, ◌+◌, List, [], ◌∷◌, ◌++◌, length, fold, slice_set, refl, ap, sym, ◌∙◌, append_assoc, length-append, arith, inl, inr}
use Rattle.std.proofs.lemmas.Bool.{cases_Bool}
use Rattle.std.proofs.lemmas.List.{set_at}
use Rattle.vod_bits.specs.Bit.{Bit}
use Rattle.vod_vcd.specs.Dump.{same_value, differing}
use Rattle.vod_vcd.proofs.Differ.{differing_from, differing_from-same, differing_from-changed}
use Rattle.vod_vcd.proofs.Same.{equal-same_value}

-- values overwritten by one slot's pairs
abbrev pub overwritten_by : List (List Bit) → List (ℕ × List Bit) → List (List Bit)
overwritten_by values pairs = fold (λ bits pair. slice_set bits pair.0 pair.1) values pairs

overwritten_by-differing_from : (n : ℕ) (front before now : List (List Bit)) → length front ≡ n → length before ≡ length now →
    overwritten_by (front ++ before) (differing_from n before now) ≡ front ++ now
overwritten_by-differing_from n front [] [] at long = refl
overwritten_by-differing_from n front [] (b ∷ now) at long = absurd (omega arith)
overwritten_by-differing_from n front (a ∷ before) [] at long = absurd (omega arith)
overwritten_by-differing_from n front (a ∷ before) (b ∷ now) at long =
    let at_next : length (front ++ b ∷ []) ≡ n + 1 = omega (arith, length-append front (b ∷ [])) in
    let shorter : length before ≡ length now = omega arith in
    let rest = overwritten_by-differing_from (n + 1) (front ++ b ∷ []) before now at_next shorter in
    let rest_at : overwritten_by (front ++ b ∷ before) (differing_from (n + 1) before now) ≡ front ++ b ∷ now =
    ap (λ v. overwritten_by v (differing_from (n + 1) before now)) (sym (append_assoc front (b ∷ []) before)) ∙ rest ∙ append_assoc front (b ∷ []) now in
    elim (cases_Bool (same_value a b)) [
      | inl same ↦
          ap (λ v. overwritten_by (front ++ v ∷ before) (differing_from n (a ∷ before) (b ∷ now))) (equal-same_value a b same)
          ∙ ap (λ v. overwritten_by (front ++ b ∷ before) v) (differing_from-same n a b before now same)
          ∙ rest_at
      | inr changed ↦
          ap (λ v. overwritten_by (front ++ a ∷ before) v) (differing_from-changed n a b before now changed)
          ∙ ap (λ v. overwritten_by v (differing_from (n + 1) before now)) (set_at front a before b n at)
          ∙ rest_at
    ]

-- what differs, written over the values before, gives the values now
pub overwritten_by-differing : (before now : List (List Bit)) → length before ≡ length now → overwritten_by before (differing before now) ≡ now
overwritten_by-differing before now long = overwritten_by-differing_from 0 [] before now refl long
