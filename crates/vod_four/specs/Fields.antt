-- That a value's bits give back its width and its words.
use Rattle.std.specs.Prelude.{◌≡◌, ℕ, ◌^◌, ◌<◌, not, List, length, map}
use Rattle.std.proofs.Common.{refl, ◌∙◌, ap, mod-eq_of_lt}
use Rattle.std.specs.Int.{bit_at}
use Rattle.std.proofs.lemmas.Nat.Bits.{bit_at-lt}
use Rattle.vod_bits.specs.Bit.{Bit, B0, B1, BX, BZ, is_0, is_1, bit_if, not_bit, and_bit}
use Rattle.vod_bits.specs.Value.{bits_from, bits_of, number_of, digit_bit}
use Rattle.vod_bits.specs.Fields.{number-of_bits, length-bits_from}
use Rattle.vod_bits.proofs.Places.{bits_from-same, zip-bits_from, map-bits_from}
use Rattle.vod_bits.proofs.Numbers.{digit_pairs}
use Rattle.vod_four.specs.Four.{four_bit, four_of}

-- whether a bit is set in the ones
abbrev pub one_bit : Bit → Bit
one_bit B0 = B0
one_bit B1 = B1
one_bit BX = B0
one_bit BZ = B1

-- whether a bit is set in the unknowns
abbrev pub unk_bit : Bit → Bit
unk_bit B0 = B0
unk_bit B1 = B0
unk_bit BX = B1
unk_bit BZ = B1

-- whether a bit is 1
abbrev pub sure_bit : Bit → Bit
sure_bit b = bit_if (is_1 b)

-- whether a bit isn't 0
abbrev pub possible_bit : Bit → Bit
possible_bit b = bit_if (not (is_0 b))

-- 1 where a bit is sure, else x where it is possible, else 0
abbrev pub bounded_bit : Bit → Bit → Bit
bounded_bit sure possible = four_bit sure (and_bit possible (not_bit sure))

-- the word of a value's ones
abbrev pub ones_of : List Bit → ℕ
ones_of bs = number_of (map one_bit bs)

-- the word of its unknowns
abbrev pub unks_of : List Bit → ℕ
unks_of bs = number_of (map unk_bit bs)

pub four-places : (w o u : ℕ) → four_of w o u ≡ bits_from (λ i. four_bit (digit_bit (bit_at o i)) (digit_bit (bit_at u i))) w
four-places w o u = zip-bits_from four_bit (λ i. digit_bit (bit_at o i)) (λ i. digit_bit (bit_at u i)) w

pub one-plane : (w o u : ℕ) → map one_bit (four_of w o u) ≡ bits_of w o
one-plane w o u =
    ap (map one_bit) (four-places w o u) ∙ map-bits_from one_bit _ w
    ∙ bits_from-same _ _ w (λ i _. digit_pairs (λ d e. one_bit (four_bit (digit_bit d) (digit_bit e)) ≡ digit_bit d) refl refl refl refl (bit_at o i) (bit_at u i) (bit_at-lt o i) (bit_at-lt u i))

pub unk-plane : (w o u : ℕ) → map unk_bit (four_of w o u) ≡ bits_of w u
unk-plane w o u =
    ap (map unk_bit) (four-places w o u) ∙ map-bits_from unk_bit _ w
    ∙ bits_from-same _ _ w (λ i _. digit_pairs (λ d e. unk_bit (four_bit (digit_bit d) (digit_bit e)) ≡ digit_bit e) refl refl refl refl (bit_at o i) (bit_at u i) (bit_at-lt o i) (bit_at-lt u i))

-- a value of w bits has w bits
pub four_width : (w o u : ℕ) → length (four_of w o u) ≡ w
four_width w o u = ap length (four-places w o u) ∙ length-bits_from _ w

pub fields_back : {X : Type 0} (f : ℕ → ℕ → ℕ → X) (w o u : ℕ) → o < 2 ^ w → u < 2 ^ w → f (length (four_of w o u)) (ones_of (four_of w o u)) (unks_of (four_of w o u)) ≡ f w o u
fields_back f w o u h l =
    let len : length (four_of w o u) ≡ w = four_width w o u in
    let ones : ones_of (four_of w o u) ≡ o = ap number_of (one-plane w o u) ∙ number-of_bits w o ∙ mod-eq_of_lt h in
    let unks : unks_of (four_of w o u) ≡ u = ap number_of (unk-plane w o u) ∙ number-of_bits w u ∙ mod-eq_of_lt l in
    rw (len, ones, unks) refl
