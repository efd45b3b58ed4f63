use Rattle.vod_constants.specs.Constants.{vector_faults, vector_span}
use Rattle.vod_constants.proofs.Settled.{unranged}
use Rattle.vod_constants.proofs.parameters.own_range.Goals as goal

pub returns-in_ok-fault-in-Err : goal.returns-in_ok-fault-in-Err
returns-in_ok-fault-in-Err c =
    let d = c.args.decls.now in
    let r = c.args.range.now in
    unranged c.in_ok-fault-in-Err.fault (vector_faults d r) (vector_span d r) c.in-Err.refusal c.in_ok-fault-in-Err.ensures c.in-Err.ensures.is
