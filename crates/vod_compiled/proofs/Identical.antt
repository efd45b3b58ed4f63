-- Whether two values are the same, as a bit.
use Rattle.std.proofs.Common.{◌≡◌, Bool, true, false, List, refl, sym, ap, IsTrue, ◌↔◌}
use Rattle.std.specs.Cmp.Lexicographic.{pointwise, pointwise_decides}
use Rattle.vod_bits.specs.Bit.{Bit, B0, B1, BX, BZ, bit_if}
use Rattle.vod_design.specs.Eval.{same_bit, identical_bit}

-- where two bits are said to be the same, they are
same_bits : (a b : Bit) → (same_bit a b ≡ true → a ≡ b) × (a ≡ b → same_bit a b ≡ true)
same_bits B0 B0 = (λ _. refl, λ _. refl)
same_bits B0 B1 = (λ h. absurd (cc), λ h. absurd (cc))
same_bits B0 BX = (λ h. absurd (cc), λ h. absurd (cc))
same_bits B0 BZ = (λ h. absurd (cc), λ h. absurd (cc))
same_bits B1 B0 = (λ h. absurd (cc), λ h. absurd (cc))
same_bits B1 B1 = (λ _. refl, λ _. refl)
same_bits B1 BX = (λ h. absurd (cc), λ h. absurd (cc))
same_bits B1 BZ = (λ h. absurd (cc), λ h. absurd (cc))
same_bits BX B0 = (λ h. absurd (cc), λ h. absurd (cc))
same_bits BX B1 = (λ h. absurd (cc), λ h. absurd (cc))
same_bits BX BX = (λ _. refl, λ _. refl)
same_bits BX BZ = (λ h. absurd (cc), λ h. absurd (cc))
same_bits BZ B0 = (λ h. absurd (cc), λ h. absurd (cc))
same_bits BZ B1 = (λ h. absurd (cc), λ h. absurd (cc))
same_bits BZ BX = (λ h. absurd (cc), λ h. absurd (cc))
same_bits BZ BZ = (λ _. refl, λ _. refl)

decided : (r s : Bool) (P : Type 0) → (IsTrue r ↔ P) → (s ≡ true → P) × (P → s ≡ true) → r ≡ s
decided true true P e d = refl
decided true false P e d = sym (d.1 (e.0 refl))
decided false true P e d = e.1 (d.0 refl)
decided false false P e d = refl

pub identical_is : (r : Bool) (xs ys : List Bit) → (IsTrue r ↔ (xs ≡ ys)) → bit_if r ≡ identical_bit xs ys
unfolding identical_bit
identical_is r xs ys e = ap bit_if (decided r (pointwise same_bit xs ys) (xs ≡ ys) e (pointwise_decides same_bits xs ys))
