-- Four-state bits and their operators (IEEE 1364-2005, 4.1 and 5.1.10). z as an operand counts as x.
use Rattle.std.specs.Prelude.{ℕ, List, Bool, true, false, slice_index_or}
use Rattle.vod_thin_design.specs.declared.thin.Bit.{Bit}
use Rattle.vod_thin_design.specs.declared.thin.Bit.TheVariants.{Zero, One, X, Z}

-- `~`
abbrev pub not_bit : Bit → Bit
not_bit Zero = One
not_bit One = Zero
not_bit X = X
not_bit Z = X

-- `&`: 0 where one is 0, 1 where both are 1, else x
abbrev pub and_bit : Bit → Bit → Bit
and_bit Zero b = Zero
and_bit One Zero = Zero
and_bit One One = One
and_bit One X = X
and_bit One Z = X
and_bit X Zero = Zero
and_bit X One = X
and_bit X X = X
and_bit X Z = X
and_bit Z Zero = Zero
and_bit Z One = X
and_bit Z X = X
and_bit Z Z = X

-- `|`: 1 where one is 1, 0 where both are 0, else x
abbrev pub or_bit : Bit → Bit → Bit
or_bit One b = One
or_bit Zero Zero = Zero
or_bit Zero One = One
or_bit Zero X = X
or_bit Zero Z = X
or_bit X Zero = X
or_bit X One = One
or_bit X X = X
or_bit X Z = X
or_bit Z Zero = X
or_bit Z One = One
or_bit Z X = X
or_bit Z Z = X

-- `^`: as on bits where both are known, else x
abbrev pub xor_bit : Bit → Bit → Bit
xor_bit Zero Zero = Zero
xor_bit Zero One = One
xor_bit Zero X = X
xor_bit Zero Z = X
xor_bit One Zero = One
xor_bit One One = Zero
xor_bit One X = X
xor_bit One Z = X
xor_bit X b = X
xor_bit Z b = X

-- whether two bits are the same, x and z included
abbrev pub same_bit : Bit → Bit → Bool
same_bit Zero Zero = true
same_bit Zero One = false
same_bit Zero X = false
same_bit Zero Z = false
same_bit One Zero = false
same_bit One One = true
same_bit One X = false
same_bit One Z = false
same_bit X Zero = false
same_bit X One = false
same_bit X X = true
same_bit X Z = false
same_bit Z Zero = false
same_bit Z One = false
same_bit Z X = false
same_bit Z Z = true

-- whether a bit is 0 or 1
abbrev pub is_known : Bit → Bool
is_known Zero = true
is_known One = true
is_known X = false
is_known Z = false

-- the value at a place of a list of values, x where there is none
abbrev pub value_at : List Bit → ℕ → Bit
value_at values place = slice_index_or values place X
