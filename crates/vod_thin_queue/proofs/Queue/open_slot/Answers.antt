use Rattle.std.proofs.Common.{subst, sym, ap}
use Rattle.vod_thin_queue.specs.State.{IsResting}
use Rattle.vod_thin_queue.proofs.Orderly.{IsOrderly-opened}
use Rattle.vod_thin_queue.proofs.Shaped.{IsShaped-opened}
use Rattle.vod_thin_queue.proofs.Queue.open_slot.Goals as goal

pub invariant_of-self : goal.invariant_of-self
invariant_of-self c = record {
  accepted = c.self.invariant.accepted;
  shaped = rw c.open_slot.ensures (IsShaped-opened _ c.args.moves.now _ c.self.invariant.shaped);
  orderly = rw c.open_slot.ensures (IsOrderly-opened _ c.args.moves.now _ (subst IsResting (sym (ap (λ core. core.state) c.self.view_is)) c.requires.rests));
  listed = c.self.invariant.listed;
}
