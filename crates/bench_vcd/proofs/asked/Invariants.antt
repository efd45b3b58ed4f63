use Rattle.std.proofs.Common.{◌≡◌}
use Rattle.bench_vcd.proofs.asked.Given as goal

abbrev pub invariant-loop-slot : goal.invariant-loop-slot
invariant-loop-slot l = l.writer.signals ≡ l.initial.writer.signals
