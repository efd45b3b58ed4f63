-- Bits, and the operators bit by bit (IEEE 1364-2005, 4.1 and 5.1.10). As an operand z counts as x.
use Rattle.std.specs.Prelude.{Bool, true, false, ◌&&◌, ◌||◌, if◌then◌else◌}

-- one bit of a value: 0, 1, unknown or of high impedance (4.1)
pub data Bit : Type 0 where
  B0 : Bit
  B1 : Bit
  BX : Bit
  BZ : Bit

-- whether the bit is 0
abbrev pub is_0 : Bit → Bool
is_0 B0 = true
is_0 B1 = false
is_0 BX = false
is_0 BZ = false

-- whether the bit is 1
abbrev pub is_1 : Bit → Bool
is_1 B0 = false
is_1 B1 = true
is_1 BX = false
is_1 BZ = false

-- whether the bit is 0 or 1
abbrev pub is_known : Bit → Bool
is_known b = is_0 b || is_1 b

-- 1 where the test holds, else 0
abbrev pub bit_if : Bool → Bit
bit_if true = B1
bit_if false = B0

-- `~`: 1 of 0, 0 of 1, else x
abbrev pub not_bit : Bit → Bit
not_bit b = if is_known b then bit_if (is_0 b) else BX

-- `&`: 0 where one is 0, 1 where both are 1, else x
abbrev pub and_bit : Bit → Bit → Bit
and_bit a b = if is_0 a || is_0 b then B0 else if is_1 a && is_1 b then B1 else BX

-- `|`: 1 where one is 1, 0 where both are 0, else x
abbrev pub or_bit : Bit → Bit → Bit
or_bit a b = if is_1 a || is_1 b then B1 else if is_0 a && is_0 b then B0 else BX

-- `^`: 1 where one is 1 and the other 0, 0 where both are 0 or both are 1, else x
abbrev pub xor_bit : Bit → Bit → Bit
xor_bit a b = if (is_1 a && is_0 b) || (is_0 a && is_1 b) then B1 else if is_known a && is_known b then B0 else BX
