-- Where those that are left stand once each, all do.
use Rattle.std.proofs.Common.{◌≢◌, AllPairs, length}
use Rattle.rows_written.proofs.are_once.Given as goal

abbrev pub invariant-loop-first : goal.invariant-loop-first
invariant-loop-first l = AllPairs (λ m n. m ≢ n) l.rest → AllPairs (λ m n. m ≢ n) l.numbers

abbrev pub decreases-loop-first : goal.decreases-loop-first
decreases-loop-first l = length l.rest
