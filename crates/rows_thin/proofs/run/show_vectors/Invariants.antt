use Rattle.std.proofs.Common.{◌≡◌}
use Rattle.vod_thin_queue.specs.State.{IsResting}
use Rattle.rows_thin.proofs.run.show_vectors.Given as goal

abbrev pub invariant-loop-vector : goal.invariant-loop-vector
invariant-loop-vector l = record { rests : IsResting l.queue.state; design : l.queue.design ≡ l.initial.queue.design }
