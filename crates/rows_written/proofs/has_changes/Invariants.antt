-- Those so far that differ are among the numbers.
use Rattle.std.proofs.Common.{ℕ, ◌<◌, ◌≢◌, [], get_or, Contains}
use Rattle.rows_written.proofs.has_changes.Given as goal

abbrev pub invariant-loop-signal : goal.invariant-loop-signal
invariant-loop-signal l = (k : ℕ) → k < l.signal → get_or l.before k [] ≢ get_or l.now k [] → Contains l.numbers k
