-- The bits of a value by their places in its two words.
use Rattle.std.specs.Prelude.{ℕ, zero, suc, ◌==◌, ◌&&◌, not, Bool, false, nat_le, if◌then◌else◌}
use Rattle.std.specs.Int.{bit_at}
use Rattle.vod_bits.specs.Bit.{Bit}
use Rattle.vod_bits.specs.Value.{digit_bit}
use Rattle.vod_four.specs.Four.{four_bit}
use Rattle.vod_vcd.specs.Values.{is_dropped}

-- the bit at a place of a value's ones and unknowns
abbrev pub bit_there : ℕ → ℕ → ℕ → Bit
bit_there ones unks place = four_bit (digit_bit (bit_at ones place)) (digit_bit (bit_at unks place))

-- whether the upper one of so many bits is dropped
abbrev pub upper_falls : (ℕ → Bit) → ℕ → Bool
upper_falls at zero = false
upper_falls at (suc zero) = false
upper_falls at (suc (suc n)) = is_dropped (at (suc n)) (at n)

-- whether a leading digit is dropped before the one behind it
abbrev pub falls_before : ℕ → ℕ → Bool
falls_before leading next = if leading == 48 then nat_le next 49 else ((leading == next) && not (leading == 49))
