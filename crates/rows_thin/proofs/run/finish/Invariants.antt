use Rattle.std.proofs.Common.{◌≡◌, length, ◌↔◌}
use Rattle.vod_thin_queue.specs.State.{IsResting}
use Rattle.vod_thin_queue.specs.Step.{choices_of}
use Rattle.vod_thin_queue.specs.Weight.{weight_of}
use Rattle.rows_thin.proofs.run.finish.Given as goal

abbrev pub invariant-loop-choices : goal.invariant-loop-choices
invariant-loop-choices l = record {
  design : l.queue.design ≡ l.initial.queue.design;
  count : l.choices ≡ length (choices_of l.queue.state);
  none : (l.choices ≡ 0) ↔ IsResting l.queue.state;
}

abbrev pub decreases-loop-choices : goal.decreases-loop-choices
decreases-loop-choices l = weight_of l.queue.state
