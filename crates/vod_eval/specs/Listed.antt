-- The values that lists give.
use Rattle.std.specs.Prelude.{List, option_and_then, slice_get}
use Rattle.vod_bits.specs.Bit.{Bit}
use Rattle.vod_design.specs.Values.{Values, value_at}

-- the values that lists of the signals' values, by number, and of the memories' words, by memory and place, give
abbrev pub values_of : Bit → List (List Bit) → List (List (List Bit)) → Values
values_of fill signals memories = record { signal = value_at fill signals; word = λ memory place. option_and_then (λ words. slice_get words place) (slice_get memories memory) }
