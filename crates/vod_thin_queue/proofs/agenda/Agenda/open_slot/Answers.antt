use Rattle.std.proofs.Common.{refl, ap}
use Rattle.vod_thin_queue.proofs.First.{opened_none, opened_more, opened_all, assigned_within, length-moves_of}
use Rattle.vod_thin_queue.proofs.agenda.Agenda.open_slot.Goals as goal

pub loop-assignment-init : goal.loop-assignment-init
loop-assignment-init c = record { moves = opened_none _ _ _ c.self.view_is c.requires.shaped c.requires.rests; val = refl; init = refl; wake = refl; pend = refl; todo = refl; later = refl; active = refl }

pub write-requires : goal.write-requires
write-requires c = rw (c.loop-assignment.invariant.moves, length-moves_of) (assigned_within c.args.design.now c.args.moves.now c.requires.within c.loop-assignment.assignment-index _ c.loop-assignment-test.true)

pub loop-assignment-preserved : goal.loop-assignment-preserved
loop-assignment-preserved c = record {
  moves = opened_more c.args.design.now c.args.moves.now _ _ c.loop-assignment.assignment-index _ c.requires.once c.requires.within c.loop-assignment-test.true c.loop-assignment.invariant.moves c.write.ensures;
  val = c.loop-assignment.invariant.val;
  init = c.loop-assignment.invariant.init;
  wake = c.loop-assignment.invariant.wake;
  pend = c.loop-assignment.invariant.pend;
  todo = c.loop-assignment.invariant.todo;
  later = c.loop-assignment.invariant.later;
  active = c.loop-assignment.invariant.active;
}

pub returns : goal.returns
returns c =
    opened_all c.args.design.now c.args.moves.now _ _ _ c.loop-assignment.assignment-index c.self.view_is c.loop-assignment-test.false c.loop-assignment.invariant.moves (ap (λ v. v.items) c.loop-assignment.invariant.val)
    (record {
      init = c.loop-assignment.invariant.init;
      wake = c.loop-assignment.invariant.wake;
      pend = c.loop-assignment.invariant.pend;
      todo = c.loop-assignment.invariant.todo;
      later = c.loop-assignment.invariant.later;
      now = c.loop-assignment.invariant.active;
    })
