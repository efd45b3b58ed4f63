use Rattle.std.proofs.Common.{◌≡◌}
use Rattle.vod_thin_queue.specs.Weight.{weight_of}
use Rattle.vod_thin_window.proofs.StepsLaws.{Leads}
use Rattle.vod_thin_window.proofs.run.settle.Given as goal

abbrev pub invariant-loop-queue : goal.invariant-loop-queue
invariant-loop-queue l = record {
  design : l.queue.design ≡ l.fn.queue.design;
  leads : Leads l.fn.queue.design l.fn.queue.state l.queue.state;
}

abbrev pub decreases-loop-queue : goal.decreases-loop-queue
decreases-loop-queue l = weight_of l.queue.state
