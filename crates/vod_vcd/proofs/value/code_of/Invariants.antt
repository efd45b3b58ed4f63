-- The digits so far, continued by the code of what is left, are the code.
use Rattle.std.proofs.Common.{◌≡◌, ◌≤◌, ◌++◌}
use Rattle.vod_vcd.specs.Text.{code}
use Rattle.vod_vcd.proofs.value.code_of.Given as goal

abbrev pub invariant-loop-left : goal.invariant-loop-left
invariant-loop-left l = record {
  below : l.left ≤ l.signal;
  so_far : l.digits.items ++ code l.left ≡ code l.signal;
}

abbrev pub decreases-loop-left : goal.decreases-loop-left
decreases-loop-left l = l.left
