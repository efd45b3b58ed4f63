-- So many values were pushed.
use Rattle.std.proofs.Common.{◌≡◌, vec_len}
use Rattle.bench_eval.proofs.room_of_tree.Given as goal

abbrev pub invariant-loop : goal.invariant-loop
invariant-loop g l = vec_len l.room ≡ l.counter
