-- The digits so far, continued by those that are left, are the whole.
use Rattle.std.proofs.Common.{◌≡◌, ◌≤◌, ◌++◌, ◌+◌, map}
use Rattle.arrayvec.specs.ArrayVec.{array_vec_len}
use Rattle.vod_bits.specs.Value.{bits_from}
use Rattle.vod_four.specs.Four.{four_of}
use Rattle.vod_vcd.specs.Values.{digit, digits}
use Rattle.vod_vcd.specs.Places.{bit_there}
use Rattle.vod_vcd.proofs.value.put_digits.Given as goal

abbrev pub invariant-loop-left : goal.invariant-loop-left
invariant-loop-left l = record {
  within : l.left ≤ l.width;
  len : array_vec_len l.line + l.left ≤ array_vec_len l.initial.line + l.width;
  so_far : l.line.items ++ map digit (bits_from (bit_there l.ones l.unks) l.left) ≡ l.initial.line.items ++ digits (four_of l.width l.ones l.unks);
}

abbrev pub decreases-loop-left : goal.decreases-loop-left
decreases-loop-left l = l.left
