-- So many values were pushed.
use Rattle.std.proofs.Common.{◌≡◌, vec_len}
use Rattle.rows_cells.proofs.room.Given as goal

abbrev pub invariant-loop : goal.invariant-loop
invariant-loop l = vec_len l.room ≡ l.counter
