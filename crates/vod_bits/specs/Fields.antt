-- That a known value's bits give back its width and its word.
use Rattle.std.specs.Prelude.{◌≡◌, ℕ, zero, suc, ◌+◌, ◌*◌, ◌%◌, ◌^◌, ◌<◌, length}
use Rattle.std.proofs.Common.{refl, ◌∙◌, ap, arith, one-add, mod-eq_of_lt}
use Rattle.std.proofs.lemmas.Nat.{mod-pow-add}
use Rattle.std.proofs.lemmas.Nat.Bits.{bit_at-lt}
use Rattle.std.specs.Int.{bit_at}
use Rattle.vod_bits.specs.Bit.{Bit}
use Rattle.vod_bits.specs.Value.{bits_from, bits_of, number_of, digit_bit, digit_of}

pub length-bits_from : (at : ℕ → Bit) (w : ℕ) → length (bits_from at w) ≡ w
unfolding bits_from
length-bits_from at zero = refl
length-bits_from at (suc w) = ap suc (length-bits_from at w)

-- a value of w bits has w bits
pub width_back : (w n : ℕ) → length (bits_of w n) ≡ w
width_back w n = length-bits_from (λ i. digit_bit (bit_at n i)) w

-- what holds of 0 and of 1 holds of a digit of base 2
pub digit_cases : (P : ℕ → Type 0) → P 0 → P 1 → (d : ℕ) → d < 2 → P d
digit_cases P p q zero h = p
digit_cases P p q (suc zero) h = q
digit_cases P p q (suc (suc d)) h = absurd (omega arith)

-- a number's lower w + 1 bits are its bit at w before its lower w bits
pub low_bits-suc : (n w : ℕ) → n % 2 ^ suc w ≡ bit_at n w * 2 ^ w + n % 2 ^ w
low_bits-suc n w = rw (← one-add w) (mod-pow-add n 1 w)

-- a digit of base 2 is that of its bit
pub digit_back : (d : ℕ) → d < 2 → digit_of (digit_bit d) ≡ d
digit_back d h = digit_cases (λ d. digit_of (digit_bit d) ≡ d) refl refl d h

pub number-of_bits : (w n : ℕ) → number_of (bits_of w n) ≡ n % 2 ^ w
unfolding bits_from number_of
number-of_bits zero n = omega arith
number-of_bits (suc w) n =
    let more : number_of (bits_of w n) ≡ n % 2 ^ w = number-of_bits w n in
    let len : length (bits_of w n) ≡ w = length-bits_from (λ i. digit_bit (bit_at n i)) w in
    let digit : digit_of (digit_bit (bit_at n w)) ≡ bit_at n w = digit_back (bit_at n w) (bit_at-lt n w) in
    rw (low_bits-suc n w, len, digit, more) refl

pub fields_back : {X : Type 0} (f : ℕ → ℕ → X) (w n : ℕ) → n < 2 ^ w → f (length (bits_of w n)) (number_of (bits_of w n)) ≡ f w n
fields_back f w n h =
    let number : number_of (bits_of w n) ≡ n = number-of_bits w n ∙ mod-eq_of_lt h in
    let len : length (bits_of w n) ≡ w = length-bits_from (λ i. digit_bit (bit_at n i)) w in
    rw (len, number) refl
