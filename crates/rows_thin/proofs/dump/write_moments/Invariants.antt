use Rattle.std.proofs.Common.{◌≡◌}
use Rattle.rows_thin.proofs.dump.write_moments.Given as goal

abbrev pub invariant-loop-number : goal.invariant-loop-number
invariant-loop-number l = l.writer.signals ≡ l.signals
