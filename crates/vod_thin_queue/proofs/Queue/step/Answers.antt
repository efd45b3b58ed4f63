use Rattle.vod_thin_queue.proofs.Falls.{weight_of-after}
use Rattle.vod_thin_queue.proofs.Orderly.{IsOrderly-after}
use Rattle.vod_thin_queue.proofs.Shaped.{IsShaped-after}
use Rattle.vod_thin_queue.proofs.Queue.step.Goals as goal

pub invariant_of-self : goal.invariant_of-self
invariant_of-self c = record {
  accepted = c.self.invariant.accepted;
  shaped = rw c.take.ensures (IsShaped-after _ _ c.event-event.result c.self.invariant.shaped);
  orderly = rw c.take.ensures (IsOrderly-after _ _ c.event-event.result c.self.invariant.accepted c.self.invariant.shaped c.event-event.ensures.allowed c.self.invariant.orderly);
  listed = c.self.invariant.listed;
}

pub returns-clause-falls : goal.returns-clause-falls
returns-clause-falls c =
    rw (← c.self.view_is, c.take.ensures) (weight_of-after _ _ c.event-event.result c.self.invariant.accepted c.self.invariant.shaped c.event-event.ensures.allowed)
