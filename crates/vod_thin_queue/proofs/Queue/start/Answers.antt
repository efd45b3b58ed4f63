use Rattle.vod_thin_queue.proofs.Orderly.{IsOrderly-start_of}
use Rattle.vod_thin_queue.proofs.Shaped.{IsShaped-start_of}
use Rattle.vod_thin_queue.proofs.Queue.start.Goals as goal

pub invariant_of-result : goal.invariant_of-result
invariant_of-result c = record {
  accepted = c.in_ok-agenda.ensures.accepted;
  shaped = rw c.in_ok-agenda.ensures.state (IsShaped-start_of c.args.design.now);
  orderly = rw c.in_ok-agenda.ensures.state (IsOrderly-start_of c.args.design.now);
  listed = c.in_ok-listeners.ensures;
}
