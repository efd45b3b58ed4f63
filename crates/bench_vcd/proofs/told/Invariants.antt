use Rattle.std.proofs.Common.{◌≡◌, length}
use Rattle.bench_vcd.proofs.told.Given as goal

abbrev pub invariant-loop-slot : goal.invariant-loop-slot
invariant-loop-slot l = record {
  size : l.writer.signals ≡ length l.second;
  shown : l.writer.shown ≡ l.second;
}
