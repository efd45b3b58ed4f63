use Rattle.vod_slot.proofs.StackRoom.{IsStackKept-start_of, IsStackKept-opened, IsStackKept-after, stack_suffices}
use Rattle.vod_slot.proofs.laws.statements_have_room.Goals as goal

pub returns-clause-start : goal.returns-clause-start
returns-clause-start c = IsStackKept-start_of

pub returns-clause-opened : goal.returns-clause-opened
returns-clause-opened c = IsStackKept-opened

pub returns-clause-after : goal.returns-clause-after
returns-clause-after c = IsStackKept-after

pub returns-clause-suffices : goal.returns-clause-suffices
returns-clause-suffices c = stack_suffices
