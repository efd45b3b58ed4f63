-- Reductions as tests of the word.
use Rattle.std.proofs.Common.{◌≡◌, ℕ, zero, suc, ◌+◌, ◌-◌, ◌*◌, ◌%◌, ◌^◌, ◌<◌, Bool, true, false, not, eqb, refl, sym, ◌∙◌, ap, arith, pow_pos, pow-suc}
use Rattle.std.proofs.lemmas.Bool.{ne_eqb}
use Rattle.std.specs.Int.{bit_at}
use Rattle.std.specs.Int.Count.{ones, ones-ones}
use Rattle.std.proofs.lemmas.Bool.Decides.{same_from_decides, Decides-eqb}
use Rattle.std.proofs.lemmas.Nat.{mod_below, ones_cat}
use Rattle.std.proofs.lemmas.Nat.Bits.{bit_at-lt}
use Rattle.vod_bits.specs.Bit.{B0, B1, bit_if, and_bit, or_bit, xor_bit}
use Rattle.vod_bits.specs.Value.{bits_from, bits_of, digit_bit, fold_bits}
use Rattle.vod_bits.specs.Fields.{digit_cases, low_bits-suc}

-- two tests whose equations follow from one another agree
eqb-same : (a b c d : ℕ) → (a ≡ b → c ≡ d) → (c ≡ d → a ≡ b) → eqb a b ≡ eqb c d
eqb-same a b c d p q =
    same_from_decides (eqb a b) (eqb c d) ((Decides-eqb a b).0, (λ e. (Decides-eqb a b).1 e))
    ((λ e. q ((Decides-eqb c d).0 e)), (λ e. (Decides-eqb c d).1 (p e)))

ne-eqb : (a b : ℕ) → (a ≡ b → ⊥) → false ≡ eqb a b
ne-eqb a b n = sym (ne_eqb a b n)

and-one : (b : Bool) → and_bit B1 (bit_if b) ≡ bit_if b
and-one true = refl
and-one false = refl

or-zero : (b : Bool) → or_bit B0 (bit_if b) ≡ bit_if b
or-zero true = refl
or-zero false = refl

all-step : (p r d : ℕ) → r < p → d < 2 → and_bit (digit_bit d) (bit_if (eqb r (p - 1))) ≡ bit_if (eqb (d * p + r) (p * 2 - 1))
all-step p r d h l =
    digit_cases (λ d. and_bit (digit_bit d) (bit_if (eqb r (p - 1))) ≡ bit_if (eqb (d * p + r) (p * 2 - 1)))
    (ap bit_if (ne-eqb (0 * p + r) (p * 2 - 1) (λ e. omega arith)))
    (and-one (eqb r (p - 1)) ∙ ap bit_if (eqb-same r (p - 1) (1 * p + r) (p * 2 - 1) (λ e. omega arith) (λ e. omega arith)))
    d l

pub all-bits : (w n : ℕ) → bit_if (eqb (n % 2 ^ w) (2 ^ w - 1)) ≡ fold_bits and_bit B1 (bits_of w n)
unfolding bits_from fold_bits
all-bits zero n = let e : n % 1 ≡ 0 = omega arith in rw e refl
all-bits (suc w) n =
    let more : bit_if (eqb (n % 2 ^ w) (2 ^ w - 1)) ≡ fold_bits and_bit B1 (bits_of w n) = all-bits w n in
    rw (low_bits-suc n w, pow-suc 2 w, ← more)
    (sym (all-step (2 ^ w) (n % 2 ^ w) (bit_at n w) (mod_below n (2 ^ w) (pow_pos w)) (bit_at-lt n w)))

any-step : (p r d : ℕ) → r < p → d < 2 → or_bit (digit_bit d) (bit_if (not (eqb r 0))) ≡ bit_if (not (eqb (d * p + r) 0))
any-step p r d h l =
    digit_cases (λ d. or_bit (digit_bit d) (bit_if (not (eqb r 0))) ≡ bit_if (not (eqb (d * p + r) 0)))
    (or-zero (not (eqb r 0)) ∙ ap (λ b. bit_if (not b)) (eqb-same r 0 (0 * p + r) 0 (λ e. omega arith) (λ e. omega arith)))
    (ap (λ b. bit_if (not b)) (ne-eqb (1 * p + r) 0 (λ e. omega arith)))
    d l

pub any-bits : (w n : ℕ) → bit_if (not (eqb (n % 2 ^ w) 0)) ≡ fold_bits or_bit B0 (bits_of w n)
unfolding bits_from fold_bits
any-bits zero n = let e : n % 1 ≡ 0 = omega arith in rw e refl
any-bits (suc w) n =
    let more : bit_if (not (eqb (n % 2 ^ w) 0)) ≡ fold_bits or_bit B0 (bits_of w n) = any-bits w n in
    rw (low_bits-suc n w, ← more)
    (sym (any-step (2 ^ w) (n % 2 ^ w) (bit_at n w) (mod_below n (2 ^ w) (pow_pos w)) (bit_at-lt n w)))

parity-zero : (m : ℕ) → xor_bit B0 (bit_if (eqb (m % 2) 1)) ≡ bit_if (eqb ((0 + m) % 2) 1)
parity-zero m =
    let e : (0 + m) % 2 ≡ m % 2 = omega arith in
    rw e (digit_cases (λ r. xor_bit B0 (bit_if (eqb r 1)) ≡ bit_if (eqb r 1)) refl refl (m % 2) (omega arith))

parity-one : (m : ℕ) → xor_bit B1 (bit_if (eqb (m % 2) 1)) ≡ bit_if (eqb ((1 + m) % 2) 1)
parity-one m =
    let e : (1 + m) % 2 ≡ 1 - m % 2 = omega arith in
    rw e (digit_cases (λ r. xor_bit B1 (bit_if (eqb r 1)) ≡ bit_if (eqb (1 - r) 1)) refl refl (m % 2) (omega arith))

ones-zero : ones 0 ≡ 0
ones-zero = ones-ones 0

ones-digit : (d : ℕ) → d < 2 → ones d ≡ d
ones-digit d l = digit_cases (λ d. ones d ≡ d) ones-zero (ones-ones 1) d l

parity-step : (m d : ℕ) → d < 2 → xor_bit (digit_bit d) (bit_if (eqb (m % 2) 1)) ≡ bit_if (eqb ((ones d + m) % 2) 1)
parity-step m d l =
    rw (ones-digit d l) (digit_cases (λ d. xor_bit (digit_bit d) (bit_if (eqb (m % 2) 1)) ≡ bit_if (eqb ((d + m) % 2) 1)) (parity-zero m) (parity-one m) d l)

pub parity-bits : (w n : ℕ) → bit_if (eqb (ones (n % 2 ^ w) % 2) 1) ≡ fold_bits xor_bit B0 (bits_of w n)
unfolding bits_from fold_bits
parity-bits zero n = let e : n % 1 ≡ 0 = omega arith in rw (e, ones-zero) refl
parity-bits (suc w) n =
    let more : bit_if (eqb (ones (n % 2 ^ w) % 2) 1) ≡ fold_bits xor_bit B0 (bits_of w n) = parity-bits w n in
    rw (low_bits-suc n w, ones_cat w (bit_at n w) (n % 2 ^ w) (mod_below n (2 ^ w) (pow_pos w)), ← more)
    (sym (parity-step (ones (n % 2 ^ w)) (bit_at n w) (bit_at-lt n w)))
