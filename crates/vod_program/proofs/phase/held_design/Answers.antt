use Rattle.std.proofs.Common.{◌≡◌, ◌≤◌, ◌^◌, length, false, refl, subst, inl, inr, arith}
use Rattle.vod_thin.specs.Faults.{IsFault}
use Rattle.vod_program.proofs.PhaseLaws.{held_other}
use Rattle.vod_program.proofs.phase.held_design.Goals as goal

pub returns-in-Err-At-clause-refused : goal.returns-in-Err-At-clause-refused
returns-in-Err-At-clause-refused c =
    let short : length c.args.source.now ≤ 2 ^ 20 = omega (arith, c.if-source-gt-MOST_BYTES.false) in
    let fault = subst (λ f. IsFault c.args.source.now false f) c.in-Err-At.field-0-is c.in-Err-At.ensures.refused in
    inr (inr (0, refl, (refl, held_other c.args.source.now c.in-Err-At.field-0-0 short fault)))
