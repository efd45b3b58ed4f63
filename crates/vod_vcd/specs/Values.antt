-- The digits of a value (IEEE 1364-2005, 18.2.1 and Table 18-2).
use Rattle.std.specs.Prelude.{ℕ, Bool, true, false, List, [], ◌∷◌, map, if◌then◌else◌}
use Rattle.vod_bits.specs.Bit.{Bit, B0, B1, BX, BZ, is_known}

-- the digit of a bit: 0, 1, x or z
abbrev pub digit : Bit → ℕ
digit B0 = 48
digit B1 = 49
digit BX = 120
digit BZ = 122

-- whether a bit is x, and whether it is z
abbrev pub is_x : Bit → Bool
is_x B0 = false
is_x B1 = false
is_x BX = true
is_x BZ = false

abbrev pub is_z : Bit → Bool
is_z B0 = false
is_z B1 = false
is_z BX = false
is_z BZ = true

-- whether a leading bit is dropped before the one behind it: 0 before 0 or 1, x before x, z before z (18.2.1)
abbrev pub is_dropped : Bit → Bit → Bool
is_dropped B0 next = is_known next
is_dropped B1 next = false
is_dropped BX next = is_x next
is_dropped BZ next = is_z next

-- the bits that are written, the upper one first: leading ones are dropped while at least two are left
unfoldable pub written_bits : List Bit → List Bit
written_bits [] = []
written_bits (b ∷ []) = b ∷ []
written_bits (b ∷ next ∷ more) = if is_dropped b next then written_bits (next ∷ more) else b ∷ next ∷ more

-- the digits of a value
abbrev pub digits : List Bit → List ℕ
digits value = map digit (written_bits value)
