-- Signed values: the upper bit, what it fills, and the order of signed numbers.
use Rattle.std.proofs.Common.{◌≡◌, ℕ, zero, suc, ◌+◌, ◌-◌, ◌*◌, ◌/◌, ◌%◌, ◌^◌, ◌<◌, ◌≤◌, ℤ, pos, ◌+ℤ◌, ◌-ℤ◌, int_lt, ltb, bit_xor, Bool, true, false, cond, length, refl, sym, ◌∙◌, ap, arith, pow_pos, pow-suc, mod-eq_of_lt, pow_mono, lt_of_lt_of_le, lt_of_le_of_lt}
use Rattle.std.specs.Int.{bit_at}
use Rattle.std.specs.Int.Bits.{xor_zero_r}
use Rattle.std.proofs.lemmas.Int.{ints}
use Rattle.std.proofs.lemmas.Nat.{xor_block, xor_lt, shr_le, mod_below}
use Rattle.std.proofs.lemmas.Nat.Bits.{bit_at-lt, bit_at_xor, bit_at_ones, bit_at_above}
use Rattle.vod_bits.specs.Bit.{B1, bit_if, is_1}
use Rattle.vod_bits.specs.Value.{bits_from, bits_of, digit_bit, upper_bit, number_of, signed_of, shift_right, resize_bits}
use Rattle.vod_bits.specs.Fields.{digit_cases, low_bits-suc, number-of_bits, length-bits_from}
use Rattle.vod_bits.proofs.Places.{shift_right-places, widen-places, fill_of}
use Rattle.vod_bits.proofs.Numbers.{bit_at_shr, shr-bits}

pub upper-bits : (w x : ℕ) → 1 ≤ w → upper_bit (bits_of w x) ≡ digit_bit (bit_at x (w - 1))
unfolding bits_from
upper-bits zero x h = absurd (omega arith)
upper-bits (suc k) x h = let e : suc k - 1 ≡ k = omega arith in rw e refl

-- w copies of the digit, as a word
abbrev pub flip : Bool → ℕ → ℕ
flip b w = cond b (2 ^ w - 1) 0

pub flip-lt : (b : Bool) (w : ℕ) → flip b w < 2 ^ w
flip-lt true w = omega (arith, pow_pos w)
flip-lt false w = pow_pos w

pub sar-lt : (w n x : ℕ) (b : Bool) → x < 2 ^ w → bit_xor (bit_xor x (flip b w) / 2 ^ n) (flip b w) < 2 ^ w
sar-lt w n x b h =
    xor_lt w (bit_xor x (flip b w) / 2 ^ n) (flip b w) (lt_of_le_of_lt (shr_le (bit_xor x (flip b w)) n) (xor_lt w x (flip b w) h (flip-lt b w))) (flip-lt b w)

twice : (d : ℕ) → d < 2 → ((d + 1) % 2 + 1) % 2 ≡ d
twice d l = digit_cases (λ d. ((d + 1) % 2 + 1) % 2 ≡ d) refl refl d l

pub sar-bits : (b : Bool) (w n x : ℕ) → x < 2 ^ w → bits_of w (bit_xor (bit_xor x (flip b w) / 2 ^ n) (flip b w)) ≡ shift_right (bit_if b) n (bits_of w x)
sar-bits false w n x h = rw (xor_zero_r x, xor_zero_r (x / 2 ^ n)) (shr-bits w n x h)
sar-bits true w n x h =
    let turned : bit_xor x (2 ^ w - 1) < 2 ^ w = xor_lt w x (2 ^ w - 1) h (flip-lt true w) in
    sym (shift_right-places B1 _ _ n w
    (λ i l m. rw (
      bit_at_xor (bit_xor x (2 ^ w - 1) / 2 ^ n) (2 ^ w - 1) i,
      bit_at_shr (bit_xor x (2 ^ w - 1)) n i,
      bit_at_above (bit_xor x (2 ^ w - 1)) w (n + i) turned m,
      bit_at_ones w i l,
    ) refl)
    (λ i l. let inside : i < w = omega arith in
    rw (
      bit_at_xor (bit_xor x (2 ^ w - 1) / 2 ^ n) (2 ^ w - 1) i,
      bit_at_shr (bit_xor x (2 ^ w - 1)) n i,
      bit_at_xor x (2 ^ w - 1) (n + i),
      bit_at_ones w (n + i) l,
      bit_at_ones w i inside,
      twice (bit_at x (n + i)) (bit_at-lt x (n + i)),
    ) refl))

pub widen-lt : (w v x : ℕ) (b : Bool) → w ≤ v → x < 2 ^ w → bit_xor (bit_xor x (flip b w)) (flip b v) < 2 ^ v
widen-lt w v x b within h =
    let p : bit_xor x (flip b w) < 2 ^ w = xor_lt w x (flip b w) h (flip-lt b w) in
    xor_lt v (bit_xor x (flip b w)) (flip b v) (lt_of_lt_of_le p (pow_mono within)) (flip-lt b v)

pub widen-bits : (b signed : Bool) (w v x : ℕ) → w ≤ v → x < 2 ^ w → bit_if b ≡ fill_of signed (bits_of w x) → bits_of v (bit_xor (bit_xor x (flip b w)) (flip b v)) ≡ resize_bits v signed (bits_of w x)
widen-bits false signed w v x within h e =
    sym (widen-places signed _ _ v w within
    (λ i _. rw (xor_zero_r x, xor_zero_r x) refl)
    (λ i _. let past : w ≤ w + i = omega arith in
    rw (xor_zero_r x, xor_zero_r x, bit_at_above x w (w + i) h past) (sym e)))
widen-bits true signed w v x within h e =
    let turned : bit_xor x (2 ^ w - 1) < 2 ^ w = xor_lt w x (2 ^ w - 1) h (flip-lt true w) in
    sym (widen-places signed _ _ v w within
    (λ i l. let inside : i < v = omega arith in
    rw (bit_at_xor (bit_xor x (2 ^ w - 1)) (2 ^ v - 1) i, bit_at_xor x (2 ^ w - 1) i, bit_at_ones w i l, bit_at_ones v i inside, twice (bit_at x i) (bit_at-lt x i)) refl)
    (λ i l. let past : w ≤ w + i = omega arith in
    rw (bit_at_xor (bit_xor x (2 ^ w - 1)) (2 ^ v - 1) (w + i), bit_at_above (bit_xor x (2 ^ w - 1)) w (w + i) turned past, bit_at_ones v (w + i) l) (sym e)))

-- the number of k + 1 bits with its upper bit turned is as far above the least signed one
offset-step : (p r d : ℕ) → r < p → d < 2 → pos (bit_xor d 1 * p + r) ≡ cond (is_1 (digit_bit d)) (pos (d * p + r) -ℤ pos (p * 2)) (pos (d * p + r)) +ℤ pos p
offset-step p r d h l =
    digit_cases (λ d. pos (bit_xor d 1 * p + r) ≡ cond (is_1 (digit_bit d)) (pos (d * p + r) -ℤ pos (p * 2)) (pos (d * p + r)) +ℤ pos p)
    (omega (arith, ints)) (omega (arith, ints)) d l

offset-suc : (k x : ℕ) → x < 2 ^ suc k → pos (bit_xor x (2 ^ k)) ≡ signed_of (bits_of (suc k) x) +ℤ pos (2 ^ k)
unfolding bits_from
offset-suc k x h =
    let small : x % 2 ^ k < 2 ^ k = mod_below x (2 ^ k) (pow_pos k) in
    let split : x ≡ bit_at x k * 2 ^ k + x % 2 ^ k = sym (mod-eq_of_lt h) ∙ low_bits-suc x k in
    let one : 2 ^ k ≡ 1 * 2 ^ k + 0 = omega arith in
    let turned : bit_xor x (2 ^ k) ≡ bit_xor (bit_at x k) 1 * 2 ^ k + x % 2 ^ k
    = ap (λ m. bit_xor m (2 ^ k)) split ∙ ap (bit_xor (bit_at x k * 2 ^ k + x % 2 ^ k)) one
    ∙ xor_block k (bit_at x k) 1 (x % 2 ^ k) 0 small (pow_pos k) ∙ ap (λ m. bit_xor (bit_at x k) 1 * 2 ^ k + m) (xor_zero_r (x % 2 ^ k)) in
    let number : number_of (bits_of (suc k) x) ≡ bit_at x k * 2 ^ k + x % 2 ^ k = number-of_bits (suc k) x ∙ low_bits-suc x k in
    let len : length (bits_of (suc k) x) ≡ suc k = length-bits_from (λ i. digit_bit (bit_at x i)) (suc k) in
    rw (turned, number, len, pow-suc 2 k) (offset-step (2 ^ k) (x % 2 ^ k) (bit_at x k) small (bit_at-lt x k))

pub offset-bits : (w x : ℕ) → 1 ≤ w → x < 2 ^ w → pos (bit_xor x (2 ^ (w - 1))) ≡ signed_of (bits_of w x) +ℤ pos (2 ^ (w - 1))
offset-bits zero x l h = absurd (omega arith)
offset-bits (suc k) x l h = let e : suc k - 1 ≡ k = omega arith in rw e (offset-suc k x h)

-- numbers that are as far above two signed ones are in their order
pub order-bits : (a b p : ℕ) (s t : ℤ) → pos a ≡ s +ℤ pos p → pos b ≡ t +ℤ pos p → ltb a b ≡ int_lt s t
order-bits a b p s t d e = grind (arith, ints)
