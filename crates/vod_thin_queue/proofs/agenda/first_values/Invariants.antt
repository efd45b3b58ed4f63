use Rattle.std.proofs.Common.{◌≡◌, take, map}
use Rattle.vod_thin_design.specs.declared.thin.Input.{Input}
use Rattle.vod_thin_queue.proofs.First.{first_values}
use Rattle.vod_thin_queue.proofs.agenda.first_values.Given as goal

abbrev pub invariant-loop-input : goal.invariant-loop-input
invariant-loop-input l = l.val.items ≡ first_values (take l.input-index (map (λ (input : Input). input.signal) l.design.inputs)) l.design.signals
