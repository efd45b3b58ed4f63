use Rattle.std.proofs.Common.{◌≡◌, take}
use Rattle.vod_thin_queue.proofs.First.{moves_of}
use Rattle.vod_thin_queue.proofs.agenda.Agenda.open_slot.Given as goal

abbrev pub invariant-loop-assignment : goal.invariant-loop-assignment
invariant-loop-assignment l = record {
  moves : l.self-inside.moves ≡ moves_of l.design.inputs (take l.assignment-index l.moves);
  val : l.self-inside.val ≡ l.initial.self-inside.val;
  init : l.self-inside.init ≡ l.initial.self-inside.init;
  wake : l.self-inside.wake ≡ l.initial.self-inside.wake;
  pend : l.self-inside.pend ≡ l.initial.self-inside.pend;
  todo : l.self-inside.todo ≡ l.initial.self-inside.todo;
  later : l.self-inside.later ≡ l.initial.self-inside.later;
  active : l.self-inside.active ≡ l.initial.self-inside.active;
}
