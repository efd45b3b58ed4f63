use Rattle.std.proofs.Common.{◌≡◌}
use Rattle.bench_vcd.proofs.best_asked.Given as goal

abbrev pub invariant-loop : goal.invariant-loop
invariant-loop l = l.writer.signals ≡ l.initial.writer.signals
