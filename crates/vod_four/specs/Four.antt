-- Operators on values of four states where they differ from those on known values (IEEE 1364-2005, 4.1 and 5.1).
use Rattle.std.specs.Prelude.{ℕ, ◌+◌, ◌-◌, ◌*◌, ◌^◌, Bool, false, ◌&&◌, ◌||◌, nat_lt, int_lt, if◌then◌else◌, List, [], ◌∷◌, length, map, replicate}
use Rattle.std.specs.List.{list_any, list_all}
use Rattle.vod_bits.specs.Bit.{Bit, B0, B1, BX, BZ, is_0, is_1, bit_if}
use Rattle.vod_bits.specs.Value.{bits_of, number_of, signed_of, upper_bit, all_known, zip_with, shift_left, shift_right}

-- the bit that is set, or not, in the ones and in the unknowns: 00 is 0, 10 is 1, 01 is x and 11 is z
abbrev pub four_bit : Bit → Bit → Bit
four_bit one unk = if is_1 unk then (if is_1 one then BZ else BX) else (if is_1 one then B1 else B0)

-- the value of w bits whose ones and unknowns are these words
abbrev pub four_of : ℕ → ℕ → ℕ → List Bit
four_of w ones unks = zip_with four_bit (bits_of w ones) (bits_of w unks)

-- a bit that is an operand: z counts as x (5.1.10)
abbrev pub operand_bit : Bit → Bit
operand_bit B0 = B0
operand_bit B1 = B1
operand_bit BX = BX
operand_bit BZ = BX

-- w bits that stand for n where the operands are known, else x in each (5.1.5)
abbrev pub number_or_x : Bool → ℕ → ℕ → List Bit
number_or_x known w n = if known then bits_of w n else replicate w BX

-- `+`: the sum modulo 2^w, or x in each bit (5.1.5)
unfoldable pub sum_bits : List Bit → List Bit → List Bit
sum_bits xs ys = number_or_x (all_known xs && all_known ys) (length xs) (number_of xs + number_of ys)

-- `-`: the difference modulo 2^w, or x in each bit (5.1.5)
unfoldable pub difference_bits : List Bit → List Bit → List Bit
difference_bits xs ys = number_or_x (all_known xs && all_known ys) (length xs) (number_of xs + (2 ^ length xs - number_of ys))

-- `*`: the product modulo 2^w, or x in each bit (5.1.5)
unfoldable pub product_bits : List Bit → List Bit → List Bit
product_bits xs ys = number_or_x (all_known xs && all_known ys) (length xs) (number_of xs * number_of ys)

-- unary `-`: the same of one operand (5.1.5)
unfoldable pub negative_bits : List Bit → List Bit
negative_bits xs = number_or_x (all_known xs) (length xs) (2 ^ length xs - number_of xs)

-- `<` of unsigned values: x where a bit is x or z (5.1.7)
unfoldable pub less_bit : List Bit → List Bit → Bit
less_bit xs ys = if all_known xs && all_known ys then bit_if (nat_lt (number_of xs) (number_of ys)) else BX

-- `<` of signed values, likewise (5.1.7)
unfoldable pub less_signed_bit : List Bit → List Bit → Bit
less_signed_bit xs ys = if all_known xs && all_known ys then bit_if (int_lt (signed_of xs) (signed_of ys)) else BX

-- whether two known bits in one place differ
unfoldable pub any_differ : List Bit → List Bit → Bool
any_differ [] ys = false
any_differ (x ∷ xs) [] = false
any_differ (x ∷ xs) (y ∷ ys) = ((is_0 x && is_1 y) || (is_1 x && is_0 y)) || any_differ xs ys

-- `==`: 0 where two known bits differ, else x where a bit is x or z, else 1 (5.1.8)
unfoldable pub equal_bit : List Bit → List Bit → Bit
equal_bit xs ys = if any_differ xs ys then B0 else if all_known xs && all_known ys then B1 else BX

-- the truth of a value: 1 where a bit is 1, 0 where all are 0, else x (5.1.9)
unfoldable pub truth_bit : List Bit → Bit
truth_bit bs = if list_any is_1 bs then B1 else if list_all is_0 bs then B0 else BX

-- `<<`: all x where the amount has an x or z; a z that is shifted comes out as x (5.1.12)
unfoldable pub shift_left_by : List Bit → List Bit → List Bit
shift_left_by amount bs = if all_known amount then shift_left (number_of amount) (map operand_bit bs) else replicate (length bs) BX

-- `>>`, likewise (5.1.12)
unfoldable pub shift_right_by : List Bit → List Bit → List Bit
shift_right_by amount bs = if all_known amount then shift_right B0 (number_of amount) (map operand_bit bs) else replicate (length bs) BX

-- `>>>` of a signed value, likewise: copies of the upper bit move in (5.1.12)
unfoldable pub shift_signed_by : List Bit → List Bit → List Bit
shift_signed_by amount bs =
    if all_known amount then shift_right (upper_bit (map operand_bit bs)) (number_of amount) (map operand_bit bs) else replicate (length bs) BX

-- bits that are equal and known stay, others are x (5.1.13)
abbrev pub merge_bit : Bit → Bit → Bit
merge_bit a b = if is_0 a && is_0 b then B0 else if is_1 a && is_1 b then B1 else BX

-- `?:` by the truth of the value tested: 1 and 0 take their branch as it is, x merges them (5.1.13)
abbrev pub choose_bits : Bit → List Bit → List Bit → List Bit
choose_bits B0 xs ys = ys
choose_bits B1 xs ys = xs
choose_bits BX xs ys = zip_with merge_bit xs ys
choose_bits BZ xs ys = zip_with merge_bit xs ys
