-- The bits that are left are written as those of the value.
use Rattle.std.proofs.Common.{◌≡◌, ◌≤◌}
use Rattle.vod_bits.specs.Value.{bits_from}
use Rattle.vod_four.specs.Four.{four_of}
use Rattle.vod_vcd.specs.Values.{written_bits}
use Rattle.vod_vcd.specs.Places.{bit_there}
use Rattle.vod_vcd.proofs.value.digit_count.Given as goal

abbrev pub invariant-loop-left : goal.invariant-loop-left
invariant-loop-left l = record {
  within : l.left ≤ l.width;
  same : written_bits (bits_from (bit_there l.ones l.unks) l.left) ≡ written_bits (four_of l.width l.ones l.unks);
}

abbrev pub decreases-loop-left : goal.decreases-loop-left
decreases-loop-left l = l.left
