use Rattle.std.proofs.Common.{length}
use Rattle.vod_thin_design.specs.declared.thin.Initial.{Initial}
use Rattle.vod_thin_queue.proofs.Accepted.{within_at, register_within, initial_is_register}
use Rattle.vod_thin_queue.proofs.agenda.initial_at.Goals as goal

pub returns-clause-within : goal.returns-clause-within
returns-clause-within c =
    within_at (λ (initial : Initial). initial.register) (length c.args.design.now.signals) c.args.design.now.initials _ c.args.place _ c.initials.ensures.items c.requires
    (register_within c.args.design.now _ (initial_is_register c.args.design.now c.initials.ensures.accepted c.args.place c.requires))
