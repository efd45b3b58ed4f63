-- How many bits the operators on values of four states give, for the crates that call them.
use Rattle.std.specs.Prelude.{◌≡◌, ℕ, Bool, true, false, ◌&&◌, if◌then◌else◌, List, length, map, replicate}
use Rattle.std.proofs.Common.{refl, sym, ◌∙◌, ◌+◌, ◌-◌, ◌*◌, ◌^◌}
use Rattle.std.proofs.lemmas.List.{length-replicate}
use Rattle.vod_bits.specs.Bit.{Bit, B0, B1, BX, BZ}
use Rattle.vod_bits.specs.Value.{number_of, all_known, upper_bit, shift_left, shift_right}
use Rattle.vod_bits.specs.Fields.{width_back}
use Rattle.vod_bits.specs.Lengths.{zip_length, map_length, shift_left_length, shift_right_length}
use Rattle.vod_four.specs.Four.{operand_bit, number_or_x, sum_bits, difference_bits, product_bits, negative_bits, shift_left_by, shift_right_by, shift_signed_by, merge_bit, choose_bits}

pub number_length : (known : Bool) (w n : ℕ) → length (number_or_x known w n) ≡ w
number_length true w n = width_back w n
number_length false w n = length-replicate w BX

pub sum_length : (xs ys : List Bit) → length (sum_bits xs ys) ≡ length xs
unfolding sum_bits
sum_length xs ys = number_length (all_known xs && all_known ys) (length xs) (number_of xs + number_of ys)

pub difference_length : (xs ys : List Bit) → length (difference_bits xs ys) ≡ length xs
unfolding difference_bits
difference_length xs ys = number_length (all_known xs && all_known ys) (length xs) (number_of xs + (2 ^ length xs - number_of ys))

pub product_length : (xs ys : List Bit) → length (product_bits xs ys) ≡ length xs
unfolding product_bits
product_length xs ys = number_length (all_known xs && all_known ys) (length xs) (number_of xs * number_of ys)

pub negative_length : (xs : List Bit) → length (negative_bits xs) ≡ length xs
unfolding negative_bits
negative_length xs = number_length (all_known xs) (length xs) (2 ^ length xs - number_of xs)

shifted_length : (known : Bool) (xs ys : List Bit) → length ys ≡ length xs → length (if known then ys else replicate (length xs) BX) ≡ length xs
shifted_length true xs ys e = e
shifted_length false xs ys e = length-replicate (length xs) BX

pub shift_left_by_length : (amount xs : List Bit) → length (shift_left_by amount xs) ≡ length xs
unfolding shift_left_by
shift_left_by_length amount xs =
    shifted_length (all_known amount) xs (shift_left (number_of amount) (map operand_bit xs)) (shift_left_length (number_of amount) (map operand_bit xs) ∙ map_length operand_bit xs)

pub shift_right_by_length : (amount xs : List Bit) → length (shift_right_by amount xs) ≡ length xs
unfolding shift_right_by
shift_right_by_length amount xs =
    shifted_length (all_known amount) xs (shift_right B0 (number_of amount) (map operand_bit xs)) (shift_right_length B0 (number_of amount) (map operand_bit xs) ∙ map_length operand_bit xs)

pub shift_signed_by_length : (amount xs : List Bit) → length (shift_signed_by amount xs) ≡ length xs
unfolding shift_signed_by
shift_signed_by_length amount xs =
    shifted_length (all_known amount) xs (shift_right (upper_bit (map operand_bit xs)) (number_of amount) (map operand_bit xs))
    (shift_right_length (upper_bit (map operand_bit xs)) (number_of amount) (map operand_bit xs) ∙ map_length operand_bit xs)

pub choose_length : (truth : Bit) (xs ys : List Bit) → length xs ≡ length ys → length (choose_bits truth xs ys) ≡ length xs
choose_length B0 xs ys e = sym e
choose_length B1 xs ys e = refl
choose_length BX xs ys e = zip_length merge_bit xs ys e
choose_length BZ xs ys e = zip_length merge_bit xs ys e

pub ruleset lengths = (sum_length, difference_length, product_length, negative_length, shift_left_by_length, shift_right_by_length, shift_signed_by_length, choose_length)
