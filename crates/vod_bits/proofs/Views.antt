-- What the fields of values tell of them.
use Rattle.std.proofs.Common.{◌≡◌, ℕ, suc, ◌+◌, ◌-◌, ◌*◌, ◌%◌, ◌^◌, ◌<◌, ◌≤◌, bit_or, Bool, true, false, List, [], ◌∷◌, length, refl, sym, ◌∙◌, ap, arith, pow_pos, pow-add, mod-eq_of_lt, add_comm}
use Rattle.std.proofs.lemmas.Nat.{or_shifted, shl_whole, mul-add-lt}
use Rattle.std.proofs.lemmas.Nat.Bits.{bit_at_cat_low}
use Rattle.std.specs.Int.{from_bool}
use Rattle.vod_bits.specs.Bit.{Bit, bit_if}
use Rattle.vod_bits.specs.Value.{bits_from, bits_of, number_of, digit_bit, zip_with}
use Rattle.vod_bits.specs.Fields.{number-of_bits, length-bits_from}
use Rattle.vod_bits.proofs.Places.{bits_from-same}
use Rattle.vod_bits.proofs.Numbers.{low-bits}

pub length-view : (w x : ℕ) (s : List Bit) → bits_of w x ≡ s → length s ≡ w
length-view w x s e = sym (ap length e) ∙ length-bits_from _ w

pub number-view : (w x : ℕ) (s : List Bit) → x < 2 ^ w → bits_of w x ≡ s → number_of s ≡ x
number-view w x s h e = sym (ap number_of e) ∙ number-of_bits w x ∙ mod-eq_of_lt h

pub one_bit-view : (b : Bool) (n : ℕ) → n ≡ from_bool b → bits_of 1 n ≡ bit_if b ∷ []
unfolding bits_from
one_bit-view true n e = rw e refl
one_bit-view false n e = rw e refl

pub widths-view : (v w x y : ℕ) (s o : List Bit) → bits_of v x ≡ s → bits_of w y ≡ o → length s ≡ length o → v ≡ w
widths-view v w x y s o p q e = sym (length-view v x s p) ∙ e ∙ length-view w y o q

-- an operator on the words is the operator bit by bit
pub zip-view : (f : Bit → Bit → Bit) (v w x y n : ℕ) (s o : List Bit) → bits_of v n ≡ zip_with f (bits_of v x) (bits_of v y) → bits_of v x ≡ s → bits_of w y ≡ o → length s ≡ length o → bits_of v n ≡ zip_with f s o
zip-view f v w x y n s o h p q e =
    let same : v ≡ w = widths-view v w x y s o p q e in
    let other : bits_of v y ≡ o = ap (λ k. bits_of k y) same ∙ q in cc

pub below-view : (v w x y : ℕ) (s o : List Bit) → bits_of v x ≡ s → bits_of w y ≡ o → length s ≡ length o → y < 2 ^ w → y < 2 ^ v
below-view v w x y s o p q e h = let same : v ≡ w = widths-view v w x y s o p q e in rw same h

-- the lower w bits of a word of k bits that has lost its carry
pub kept-bits : (w k n : ℕ) → w ≤ k → bits_of w (n % 2 ^ k % 2 ^ w) ≡ bits_of w n
kept-bits w k n h = low-bits w w (n % 2 ^ k) (omega arith) ∙ low-bits w k n h

-- a multiple of 2^w adds nothing to the lower w bits
multiple-bits : (w a n : ℕ) → bits_of w (a * 2 ^ w + n) ≡ bits_of w n
multiple-bits w a n = bits_from-same _ _ w (λ i l. ap digit_bit (bit_at_cat_low a w n i l))

borrow-step : (a p x y : ℕ) → y ≤ p → x + (suc a * p - y) ≡ a * p + (x + (p - y))
borrow-step a p x y h = omega arith

-- to borrow 2^k or 2^w is the same in the lower w bits
pub borrow-bits : (w k x y : ℕ) → w ≤ k → y ≤ 2 ^ w → bits_of w (x + (2 ^ k - y)) ≡ bits_of w (x + (2 ^ w - y))
borrow-bits w k x y h l =
    let count : k ≡ (k - w) + w = omega arith in
    let power : 2 ^ k ≡ 2 ^ (k - w) * 2 ^ w = ap (λ n. 2 ^ n) count ∙ pow-add 2 (k - w) w in
    let some : 2 ^ (k - w) ≡ suc (2 ^ (k - w) - 1) = omega (arith, pow_pos (k - w)) in
    let whole : 2 ^ k ≡ suc (2 ^ (k - w) - 1) * 2 ^ w = power ∙ ap (λ a. a * 2 ^ w) some in
    rw (whole, borrow-step (2 ^ (k - w) - 1) (2 ^ w) x y l) (multiple-bits w (2 ^ (k - w) - 1) (x + (2 ^ w - y)))

-- a word shifted up and another below it
pub joined-word : (v w k a b : ℕ) → a < 2 ^ v → b < 2 ^ w → v + w ≤ k → bit_or (a * 2 ^ w % 2 ^ k) b ≡ a * 2 ^ w + b
joined-word v w k a b p q h = rw (shl_whole a v w k p h) (or_shifted a w b q)

pub joined-lt : (v w a b : ℕ) → a < 2 ^ v → b < 2 ^ w → a * 2 ^ w + b < 2 ^ (v + w)
joined-lt v w a b p q =
    let turned : v + w ≡ w + v = add_comm v w in
    rw (turned, pow-add 2 w v) (mul-add-lt a (2 ^ w) b (2 ^ v) p q)
