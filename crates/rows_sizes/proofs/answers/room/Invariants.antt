use Rattle.std.proofs.Common.{◌≡◌, vec_len}
use Rattle.rows_sizes.proofs.answers.room.Given as goal

abbrev pub invariant-loop : goal.invariant-loop
invariant-loop l = vec_len l.room ≡ l.counter
