-- The vectors so far are in form, and at most 64.
use Rattle.std.proofs.Common.{All, length, ◌≤◌, ◌-◌}
use Rattle.vod_thin_code.specs.Bytes.{IsInForm}
use Rattle.rows_device.proofs.records.vectors_of.Given as goal

abbrev pub invariant-loop-rest : goal.invariant-loop-rest
invariant-loop-rest l = record {
  few : length l.vectors.items ≤ 64;
  forms : All (IsInForm l.design) l.vectors.items;
}

abbrev pub decreases-loop-rest : goal.decreases-loop-rest
decreases-loop-rest l = 64 - length l.vectors.items
