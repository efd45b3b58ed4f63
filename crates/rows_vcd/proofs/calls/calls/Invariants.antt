-- What is shown is what the writer showed last.
use Rattle.std.proofs.Common.{◌≡◌, vec_len}
use Rattle.rows_vcd.proofs.calls.calls.Given as goal

abbrev pub invariant-loop-part : goal.invariant-loop-part
invariant-loop-part l = record {
  shown : l.writer.shown ≡ l.shown.items;
  size : l.writer.signals ≡ vec_len l.shown;
}
