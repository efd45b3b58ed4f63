use Rattle.std.proofs.Common.{ℕ, List, sym, subst}
use Rattle.vod_io.specs.Told.{Tells}
use Rattle.vod_program.specs.Sources.{IsUnrecordable}
use Rattle.vod_program.specs.Phases.{Fails}
use Rattle.vod_program.specs.declared.status.Part.TheVariants as part
use Rattle.vod_program.proofs.PhaseLaws.{within_refused}
use Rattle.vod_program.proofs.phase.recordable_of.Goals as goal

pub returns-in-Err-clause-refused : goal.returns-in-Err-clause-refused
returns-in-Err-clause-refused g c =
    subst (λ f. Fails part.Script f (λ line. Tells (g.S.Source.left c.args.script.now) (λ text. IsUnrecordable c.args.design.now text line))) (sym c.fault_within.ensures)
    (within_refused c.args.design.now (g.S.Source.left c.args.script.now) c.in-Err.fault c.in-Err.ensures.refused)
