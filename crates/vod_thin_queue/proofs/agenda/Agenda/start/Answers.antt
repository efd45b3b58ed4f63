use Rattle.vod_thin_queue.proofs.Accepted.{few_inputs, few_initials}
use Rattle.vod_thin_queue.proofs.agenda.Agenda.start.Goals as goal

pub none-requires : goal.none-requires
none-requires c = rw c.inputs-inputs.ensures.items (few_inputs c.args.design.now c.inputs-inputs.ensures.accepted)

pub all-requires : goal.all-requires
all-requires c = rw c.initials-initials.ensures.items (few_initials c.args.design.now c.inputs-inputs.ensures.accepted)
