-- Numbers and words by their digits.
use Rattle.std.proofs.Common.{◌≡◌, ℕ, ◌+◌, ◌-◌, ◌*◌, ◌/◌, ◌%◌, ◌^◌, ◌<◌, ◌≤◌, min, max, bit_and, bit_or, bit_xor, Bool, ◌++◌, map, refl, sym, ◌∙◌, ap, arith, pow_pos}
use Rattle.std.specs.Int.{bit_at}
use Rattle.std.proofs.lemmas.Nat.{shr_split, shr-shr}
use Rattle.std.proofs.lemmas.Nat.Bits.{bit_at-lt, bit_at-zero, bit_at_and, bit_at_or, bit_at_xor, bit_at_ones, bit_at_above, bit_at_cat_low, bit_at_cat_high}
use Rattle.vod_bits.specs.Bit.{B0, not_bit, and_bit, or_bit, xor_bit}
use Rattle.vod_bits.specs.Value.{bits_of, digit_bit, zip_with, shift_left, shift_right, slice_bits, resize_bits}
use Rattle.vod_bits.specs.Fields.{digit_cases}
use Rattle.vod_bits.proofs.Places.{bits_from-same, zip-bits_from, map-bits_from, join-bits_from, shift_left-places, shift_right-places, slice-places, narrow-places}

-- what holds of each pair of digits
pub digit_pairs : (P : ℕ → ℕ → Type 0) → P 0 0 → P 0 1 → P 1 0 → P 1 1 → (d e : ℕ) → d < 2 → e < 2 → P d e
digit_pairs P p q r s d e l m =
    digit_cases (λ d. P d e) (digit_cases (P 0) p q e m) (digit_cases (P 1) r s e m) d l

-- the lower bits of n are those of its remainder
pub bit_at_low : (n k i : ℕ) → i < k → bit_at (n % 2 ^ k) i ≡ bit_at n i
bit_at_low n k i h = sym (bit_at_cat_low (n / 2 ^ k) k (n % 2 ^ k) i h) ∙ ap (λ m. bit_at m i) (shr_split n k)

pub bit_at_shr : (n k i : ℕ) → bit_at (n / 2 ^ k) i ≡ bit_at n (k + i)
bit_at_shr n k i = ap (λ m. m % 2) (shr-shr n k i)

pub bit_at_shl_low : (n k i : ℕ) → i < k → bit_at (n * 2 ^ k) i ≡ 0
bit_at_shl_low n k i h =
    let e : n * 2 ^ k ≡ n * 2 ^ k + 0 = omega arith in
    ap (λ m. bit_at m i) e ∙ bit_at_cat_low n k 0 i h ∙ bit_at-zero i

pub bit_at_shl_high : (n k i : ℕ) → bit_at (n * 2 ^ k) (k + i) ≡ bit_at n i
bit_at_shl_high n k i =
    let e : n * 2 ^ k ≡ n * 2 ^ k + 0 = omega arith in
    let past : k ≤ k + i = omega arith in
    let back : k + i - k ≡ i = omega arith in
    ap (λ m. bit_at m (k + i)) e ∙ bit_at_cat_high n k 0 (k + i) (pow_pos k) past ∙ ap (bit_at n) back

pub and-bits : (w a b : ℕ) → bits_of w (bit_and a b) ≡ zip_with and_bit (bits_of w a) (bits_of w b)
and-bits w a b = bits_from-same _ _ w (λ i _. rw (bit_at_and a b i)
    (digit_pairs (λ d e. digit_bit (min d e) ≡ and_bit (digit_bit d) (digit_bit e)) refl refl refl refl (bit_at a i) (bit_at b i) (bit_at-lt a i) (bit_at-lt b i)))
    ∙ sym (zip-bits_from and_bit _ _ w)

pub or-bits : (w a b : ℕ) → bits_of w (bit_or a b) ≡ zip_with or_bit (bits_of w a) (bits_of w b)
or-bits w a b = bits_from-same _ _ w (λ i _. rw (bit_at_or a b i)
    (digit_pairs (λ d e. digit_bit (max d e) ≡ or_bit (digit_bit d) (digit_bit e)) refl refl refl refl (bit_at a i) (bit_at b i) (bit_at-lt a i) (bit_at-lt b i)))
    ∙ sym (zip-bits_from or_bit _ _ w)

pub xor-bits : (w a b : ℕ) → bits_of w (bit_xor a b) ≡ zip_with xor_bit (bits_of w a) (bits_of w b)
xor-bits w a b = bits_from-same _ _ w (λ i _. rw (bit_at_xor a b i)
    (digit_pairs (λ d e. digit_bit ((d + e) % 2) ≡ xor_bit (digit_bit d) (digit_bit e)) refl refl refl refl (bit_at a i) (bit_at b i) (bit_at-lt a i) (bit_at-lt b i)))
    ∙ sym (zip-bits_from xor_bit _ _ w)

-- `x ^ MAX` at w bits
pub not-bits : (w a : ℕ) → bits_of w (bit_xor a (2 ^ w - 1)) ≡ map not_bit (bits_of w a)
not-bits w a = bits_from-same _ _ w (λ i l. rw (bit_at_xor a (2 ^ w - 1) i, bit_at_ones w i l)
    (digit_cases (λ d. digit_bit ((d + 1) % 2) ≡ not_bit (digit_bit d)) refl refl (bit_at a i) (bit_at-lt a i)))
    ∙ sym (map-bits_from not_bit _ w)

-- the lower w bits are those of the remainder at w bits or more
pub low-bits : (w k n : ℕ) → w ≤ k → bits_of w (n % 2 ^ k) ≡ bits_of w n
low-bits w k n h = bits_from-same _ _ w (λ i l. let j : i < k = omega arith in ap digit_bit (bit_at_low n k i j))

pub concat-bits : (v w a b : ℕ) → b < 2 ^ w → bits_of (v + w) (a * 2 ^ w + b) ≡ bits_of v a ++ bits_of w b
concat-bits v w a b h = sym (join-bits_from _ _ _ v w
    (λ i _. let past : w ≤ w + i = omega arith in
    let back : w + i - w ≡ i = omega arith in
    ap digit_bit (sym (bit_at_cat_high a w b (w + i) h past ∙ ap (bit_at a) back)))
    (λ i l. ap digit_bit (sym (bit_at_cat_low a w b i l))))

pub shl-bits : (w n x : ℕ) → bits_of w (x * 2 ^ n) ≡ shift_left n (bits_of w x)
shl-bits w n x = sym (shift_left-places _ _ n w
    (λ i _ l. ap digit_bit (sym (bit_at_shl_low x n i l)))
    (λ i _. ap digit_bit (sym (bit_at_shl_high x n i))))

pub shr-bits : (w n x : ℕ) → x < 2 ^ w → bits_of w (x / 2 ^ n) ≡ shift_right B0 n (bits_of w x)
shr-bits w n x h = sym (shift_right-places B0 _ _ n w
    (λ i _ l. ap digit_bit (sym (bit_at_shr x n i ∙ bit_at_above x w (n + i) h l)))
    (λ i _. ap digit_bit (sym (bit_at_shr x n i))))

pub slice-bits : (low width w x : ℕ) → low + width ≤ w → bits_of width (x / 2 ^ low) ≡ slice_bits low width (bits_of w x)
slice-bits low width w x h = sym (slice-places _ _ low width w h (λ i _. ap digit_bit (sym (bit_at_shr x low i))))

pub narrow-bits : (signed : Bool) (v w x : ℕ) → v ≤ w → bits_of v x ≡ resize_bits v signed (bits_of w x)
narrow-bits signed v w x h = sym (narrow-places signed _ _ v w h (λ i _. refl))
