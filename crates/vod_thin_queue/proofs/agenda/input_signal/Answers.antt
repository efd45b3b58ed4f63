use Rattle.std.proofs.Common.{length}
use Rattle.vod_thin_design.specs.declared.thin.Input.{Input}
use Rattle.vod_thin_queue.proofs.Accepted.{within_at, input_within}
use Rattle.vod_thin_queue.proofs.agenda.input_signal.Goals as goal

pub returns-clause-within : goal.returns-clause-within
returns-clause-within c =
    within_at (λ (input : Input). input.signal) (length c.args.design.now.signals) c.args.design.now.inputs _ c.args.input _ c.inputs.ensures.items c.requires (input_within c.args.design.now c.inputs.ensures.accepted c.args.input c.requires)
