-- Operators on known operands, and on others.
use Rattle.std.proofs.Common.{◌≡◌, ◌+◌, ◌-◌, ◌*◌, ◌^◌, true, false, ◌&&◌, List, [], ◌∷◌, length, map, replicate, refl, ap, ltb, int_lt, arith, ◌⊎◌, inl, inr}
use Rattle.vod_bits.specs.Bit.{Bit, B0, B1, BX, BZ, bit_if}
use Rattle.vod_bits.specs.Value.{bits_of, number_of, signed_of, all_known, shift_left, shift_right}
use Rattle.vod_four.specs.Four.{operand_bit, sum_bits, difference_bits, product_bits, negative_bits, less_bit, less_signed_bit, any_differ, equal_bit, shift_left_by, shift_right_by, shift_signed_by}
use Rattle.vod_four.proofs.Moves.{copying}

pub sum-known : (xs ys : List Bit) → (all_known xs && all_known ys) ≡ true → sum_bits xs ys ≡ bits_of (length xs) (number_of xs + number_of ys)
unfolding sum_bits
sum-known xs ys k = rw k refl

pub sum-unknown : (xs ys : List Bit) → (all_known xs && all_known ys) ≡ false → sum_bits xs ys ≡ replicate (length xs) BX
unfolding sum_bits
sum-unknown xs ys k = rw k refl

pub difference-known : (xs ys : List Bit) → (all_known xs && all_known ys) ≡ true → difference_bits xs ys ≡ bits_of (length xs) (number_of xs + (2 ^ length xs - number_of ys))
unfolding difference_bits
difference-known xs ys k = rw k refl

pub difference-unknown : (xs ys : List Bit) → (all_known xs && all_known ys) ≡ false → difference_bits xs ys ≡ replicate (length xs) BX
unfolding difference_bits
difference-unknown xs ys k = rw k refl

pub product-known : (xs ys : List Bit) → (all_known xs && all_known ys) ≡ true → product_bits xs ys ≡ bits_of (length xs) (number_of xs * number_of ys)
unfolding product_bits
product-known xs ys k = rw k refl

pub product-unknown : (xs ys : List Bit) → (all_known xs && all_known ys) ≡ false → product_bits xs ys ≡ replicate (length xs) BX
unfolding product_bits
product-unknown xs ys k = rw k refl

pub negative-known : (xs : List Bit) → all_known xs ≡ true → negative_bits xs ≡ bits_of (length xs) (2 ^ length xs - number_of xs)
unfolding negative_bits
negative-known xs k = rw k refl

pub negative-unknown : (xs : List Bit) → all_known xs ≡ false → negative_bits xs ≡ replicate (length xs) BX
unfolding negative_bits
negative-unknown xs k = rw k refl

pub less-known : (xs ys : List Bit) → (all_known xs && all_known ys) ≡ true → less_bit xs ys ≡ bit_if (ltb (number_of xs) (number_of ys))
unfolding less_bit
less-known xs ys k = rw k refl

pub less-unknown : (xs ys : List Bit) → (all_known xs && all_known ys) ≡ false → less_bit xs ys ≡ BX
unfolding less_bit
less-unknown xs ys k = rw k refl

pub less_signed-known : (xs ys : List Bit) → (all_known xs && all_known ys) ≡ true → less_signed_bit xs ys ≡ bit_if (int_lt (signed_of xs) (signed_of ys))
unfolding less_signed_bit
less_signed-known xs ys k = rw k refl

pub less_signed-unknown : (xs ys : List Bit) → (all_known xs && all_known ys) ≡ false → less_signed_bit xs ys ≡ BX
unfolding less_signed_bit
less_signed-unknown xs ys k = rw k refl

pub shift_left-known : (amount xs : List Bit) → all_known amount ≡ true → shift_left_by amount xs ≡ shift_left (number_of amount) (map operand_bit xs)
unfolding shift_left_by
shift_left-known amount xs k = rw k refl

pub shift_left-unknown : (amount xs : List Bit) → all_known amount ≡ false → shift_left_by amount xs ≡ replicate (length xs) BX
unfolding shift_left_by
shift_left-unknown amount xs k = rw k refl

pub shift_right-known : (amount xs : List Bit) → all_known amount ≡ true → shift_right_by amount xs ≡ shift_right B0 (number_of amount) (map operand_bit xs)
unfolding shift_right_by
shift_right-known amount xs k = rw k refl

pub shift_right-unknown : (amount xs : List Bit) → all_known amount ≡ false → shift_right_by amount xs ≡ replicate (length xs) BX
unfolding shift_right_by
shift_right-unknown amount xs k = rw k refl

pub shift_signed-known : (amount xs : List Bit) → all_known amount ≡ true → shift_signed_by amount xs ≡ copying (number_of amount) (map operand_bit xs)
unfolding shift_signed_by
shift_signed-known amount xs k = rw k refl

pub shift_signed-unknown : (amount xs : List Bit) → all_known amount ≡ false → shift_signed_by amount xs ≡ replicate (length xs) BX
unfolding shift_signed_by
shift_signed-unknown amount xs k = rw k refl

-- ---- known values

pub operand-known : (xs : List Bit) → all_known xs ≡ true → map operand_bit xs ≡ xs
operand-known [] k = refl
operand-known (B0 ∷ xs) k = ap (λ bs. B0 ∷ bs) (operand-known xs k)
operand-known (B1 ∷ xs) k = ap (λ bs. B1 ∷ bs) (operand-known xs k)
operand-known (BX ∷ xs) k = cc
operand-known (BZ ∷ xs) k = cc

differ-self : (xs : List Bit) → any_differ xs xs ≡ false
unfolding any_differ
differ-self [] = refl
differ-self (B0 ∷ xs) = differ-self xs
differ-self (B1 ∷ xs) = differ-self xs
differ-self (BX ∷ xs) = differ-self xs
differ-self (BZ ∷ xs) = differ-self xs

pub equal-self : (xs : List Bit) → all_known xs ≡ true → equal_bit xs xs ≡ B1
unfolding equal_bit
equal-self xs k = rw (differ-self xs, k) refl

-- two known values differ somewhere or are the same
differ-or : (xs ys : List Bit) → all_known xs ≡ true → all_known ys ≡ true → length xs ≡ length ys → (any_differ xs ys ≡ true) ⊎ (xs ≡ ys)
unfolding any_differ
differ-or [] [] k l e = inr refl
differ-or [] (y ∷ ys) k l e = absurd (omega arith)
differ-or (x ∷ xs) [] k l e = absurd (omega arith)
differ-or (B0 ∷ xs) (B1 ∷ ys) k l e = inl refl
differ-or (B1 ∷ xs) (B0 ∷ ys) k l e = inl refl
differ-or (B0 ∷ xs) (B0 ∷ ys) k l e =
    let same : length xs ≡ length ys = omega arith in
    elim (differ-or xs ys k l same) [ inl d ↦ inl d | inr s ↦ inr (ap (λ bs. B0 ∷ bs) s) ]
differ-or (B1 ∷ xs) (B1 ∷ ys) k l e =
    let same : length xs ≡ length ys = omega arith in
    elim (differ-or xs ys k l same) [ inl d ↦ inl d | inr s ↦ inr (ap (λ bs. B1 ∷ bs) s) ]
differ-or (BX ∷ xs) (y ∷ ys) k l e = cc
differ-or (BZ ∷ xs) (y ∷ ys) k l e = cc
differ-or (B0 ∷ xs) (BX ∷ ys) k l e = cc
differ-or (B0 ∷ xs) (BZ ∷ ys) k l e = cc
differ-or (B1 ∷ xs) (BX ∷ ys) k l e = cc
differ-or (B1 ∷ xs) (BZ ∷ ys) k l e = cc

pub equal-other : (xs ys : List Bit) → all_known xs ≡ true → all_known ys ≡ true → length xs ≡ length ys → (xs ≡ ys → ⊥) → equal_bit xs ys ≡ B0
unfolding equal_bit
equal-other xs ys k l e n = elim (differ-or xs ys k l e) [ inl d ↦ rw d refl | inr s ↦ absurd (n s) ]

pub both-known : (xs ys : List Bit) → all_known xs ≡ true → all_known ys ≡ true → (all_known xs && all_known ys) ≡ true
both-known xs ys k l = rw (k, l) refl
