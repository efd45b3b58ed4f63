-- Values with the same bits.
use Rattle.std.proofs.Common.{◌≡◌, ℕ, ◌<◌, ◌^◌, nat_eq, List, [], ◌∷◌, length, true, false, refl, ap, sym, ◌∙◌, inl, inr, arith}
use Rattle.std.proofs.lemmas.Bool.{cases_Bool}
use Rattle.vod_bits.specs.Bit.{Bit, B0, B1, BX, BZ}
use Rattle.vod_design.specs.Eval.{same_bit}
use Rattle.vod_bits.specs.Value.{bits_from}
use Rattle.vod_four.specs.Four.{four_of}
use Rattle.vod_four.specs.Fields.{fields_back, four-places, ones_of, unks_of}
use Rattle.vod_vcd.specs.Dump.{same_value}

equal-same_bit : (a b : Bit) → same_bit a b ≡ true → a ≡ b
equal-same_bit B0 B0 h = refl
equal-same_bit B0 B1 h = cc
equal-same_bit B0 BX h = cc
equal-same_bit B0 BZ h = cc
equal-same_bit B1 B0 h = cc
equal-same_bit B1 B1 h = refl
equal-same_bit B1 BX h = cc
equal-same_bit B1 BZ h = cc
equal-same_bit BX B0 h = cc
equal-same_bit BX B1 h = cc
equal-same_bit BX BX h = refl
equal-same_bit BX BZ h = cc
equal-same_bit BZ B0 h = cc
equal-same_bit BZ B1 h = cc
equal-same_bit BZ BX h = cc
equal-same_bit BZ BZ h = refl

same_bit-refl : (a : Bit) → same_bit a a ≡ true
same_bit-refl B0 = refl
same_bit-refl B1 = refl
same_bit-refl BX = refl
same_bit-refl BZ = refl

pub same_value-refl : (a : List Bit) → same_value a a ≡ true
same_value-refl [] = refl
same_value-refl (a ∷ as_) = rw (same_bit-refl a, same_value-refl as_) refl

pub equal-same_value : (a b : List Bit) → same_value a b ≡ true → a ≡ b
equal-same_value [] [] h = refl
equal-same_value [] (b ∷ bs) h = cc
equal-same_value (a ∷ as_) [] h = cc
equal-same_value (a ∷ as_) (b ∷ bs) h = elim (cases_Bool (same_bit a b)) [
  | inl same ↦
      let more : same_value as_ bs ≡ true = rw (same) at h in
      let one = equal-same_bit a b same in
      let rest = equal-same_value as_ bs more in
      cc
  | inr changed ↦ let none : false ≡ true = rw (changed) at h in cc
]

pub different-same_value : (a b : List Bit) → (a ≡ b → ⊥) → same_value a b ≡ false
different-same_value a b apart = elim (cases_Bool (same_value a b)) [
  | inl same ↦ absurd (apart (equal-same_value a b same))
  | inr changed ↦ changed
]

-- a field of a value, by its bits
pub field : (f : ℕ → ℕ → ℕ → ℕ) (w o u x p v : ℕ) → o < 2 ^ w → u < 2 ^ w → p < 2 ^ x → v < 2 ^ x → four_of w o u ≡ four_of x p v → f w o u ≡ f x p v
field f w o u x p v ho hu hp hv same =
    sym (fields_back f w o u ho hu) ∙ ap (λ bs. f (length bs) (ones_of bs) (unks_of bs)) same ∙ fields_back f x p v hp hv

-- where widths and ones are the same, the unknowns tell
pub same_value-unks : (w o u v : ℕ) → o < 2 ^ w → u < 2 ^ w → v < 2 ^ w → nat_eq u v ≡ same_value (four_of w o u) (four_of w o v)
same_value-unks w o u v ho hu hv = elim (cases_Bool (nat_eq u v)) [
  | inl same ↦ let is : u ≡ v = grind arith in rw (same, is) (sym (same_value-refl (four_of w o v)))
  | inr changed ↦
      let apart : u ≡ v → ⊥ = grind arith in
      rw changed (sym (different-same_value (four_of w o u) (four_of w o v) (λ e. apart (field (λ _ _ n. n) w o u w o v ho hu ho hv e))))
]

-- the value of one x
pub one_x : four_of 1 0 1 ≡ BX ∷ []
unfolding bits_from
one_x = four-places 1 0 1
