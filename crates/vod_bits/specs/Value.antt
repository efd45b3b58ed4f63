-- Values as lists of bits, the upper bit first, and the operators on them (IEEE 1364-2005, 5.1).
use Rattle.std.specs.Prelude.{ℕ, zero, suc, ◌+◌, ◌-◌, ◌*◌, ◌^◌, Bool, if◌then◌else◌, List, [], ◌∷◌, ◌++◌, length, take, drop, replicate, ℤ, pos, ◌-ℤ◌}
use Rattle.std.specs.Int.{bit_at}
use Rattle.std.specs.List.{list_all}
use Rattle.vod_bits.specs.Bit.{Bit, B0, B1, is_1, is_known}

-- the bits at the places w - 1 down to 0
unfoldable pub bits_from : (ℕ → Bit) → ℕ → List Bit
bits_from at zero = []
bits_from at (suc w) = at w ∷ bits_from at w

-- a digit of base 2 as a bit
abbrev pub digit_bit : ℕ → Bit
digit_bit zero = B0
digit_bit (suc d) = B1

-- the value of w bits that stands for n modulo 2^w: the lower w bits of n
abbrev pub bits_of : ℕ → ℕ → List Bit
bits_of w n = bits_from (λ i. digit_bit (bit_at n i)) w

-- a bit as a digit of base 2
abbrev pub digit_of : Bit → ℕ
digit_of b = if is_1 b then 1 else 0

-- the number that a known value stands for
unfoldable pub number_of : List Bit → ℕ
number_of [] = 0
number_of (b ∷ bs) = digit_of b * 2 ^ length bs + number_of bs

-- the upper bit
abbrev pub upper_bit : List Bit → Bit
upper_bit [] = B0
upper_bit (b ∷ bs) = b

-- the number that a known value stands for where it is signed, by two's complement
abbrev pub signed_of : List Bit → ℤ
signed_of bs = if is_1 (upper_bit bs) then pos (number_of bs) -ℤ pos (2 ^ length bs) else pos (number_of bs)

-- whether no bit is x or z
abbrev pub all_known : List Bit → Bool
all_known bs = list_all is_known bs

-- an operator bit by bit, on values of one width (5.1.10)
unfoldable pub zip_with : (Bit → Bit → Bit) → List Bit → List Bit → List Bit
zip_with f [] bs = []
zip_with f (a ∷ more) [] = []
zip_with f (a ∷ more) (b ∷ bs) = f a b ∷ zip_with f more bs

-- an operator folded over the bits (5.1.11): that of no bits is `start`
unfoldable pub fold_bits : (Bit → Bit → Bit) → Bit → List Bit → Bit
fold_bits f start [] = start
fold_bits f start (b ∷ bs) = f b (fold_bits f start bs)

-- `<<`: n zeros move in below, and n bits out above (5.1.12)
unfoldable pub shift_left : ℕ → List Bit → List Bit
shift_left n bs = drop n (bs ++ replicate n B0)

-- `>>` and `>>>`: n copies of a bit move in above, and n bits out below (5.1.12)
unfoldable pub shift_right : Bit → ℕ → List Bit → List Bit
shift_right fill n bs = take (length bs) (replicate n fill ++ bs)

-- another width: more bits are copies of the upper bit where the value is signed, else 0; fewer are the lower ones (5.4.1, 5.5.2)
unfoldable pub resize_bits : ℕ → Bool → List Bit → List Bit
resize_bits width signed bs = replicate (width - length bs) (if signed then upper_bit bs else B0) ++ drop (length bs - width) bs

-- `width` bits from the place `low` up (5.2.1)
unfoldable pub slice_bits : ℕ → ℕ → List Bit → List Bit
slice_bits low width bs = take width (drop (length bs - (low + width)) bs)
