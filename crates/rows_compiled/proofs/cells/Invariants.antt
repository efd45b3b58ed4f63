use Rattle.std.proofs.Common.{◌≡◌, vec_len}
use Rattle.rows_compiled.proofs.cells.Given as goal

abbrev pub invariant-loop : goal.invariant-loop
invariant-loop g l = vec_len l.cells ≡ l.counter
