-- A value that is extended by zeros as far as is asked.
use Rattle.std.specs.Prelude.{ℕ, nat_lt, if◌then◌else◌, List, length}
use Rattle.vod_bits.specs.Bit.{Bit, B0}
use Rattle.vod_slot.specs.Store.{bit_in}

-- its bit at a place from the lowest up (5.5.2)
abbrev pub bit_of_wide : List Bit → ℕ → Bit
bit_of_wide bits place = if nat_lt place (length bits) then bit_in bits place else B0
