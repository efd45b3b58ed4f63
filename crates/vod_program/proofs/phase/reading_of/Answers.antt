use Rattle.std.proofs.Common.{◌≡◌, ◌∙◌, ap, sym, subst, Err, length}
use Rattle.std.proofs.lemmas.Result.{err_from_is_err_and}
use Rattle.vod_thin.specs.Thin.{IsThin}
use Rattle.vod_thin.specs.Faults.{IsFault}
use Rattle.vod_program.specs.declared.status.Part.TheVariants as part
use Rattle.vod_program.proofs.PhaseLaws.{all_told, design_refused, handed}
use Rattle.vod_program.proofs.phase.reading_of.Goals as goal

pub read_thin-requires-clause-cut : goal.read_thin-requires-clause-cut
read_thin-requires-clause-cut g c = λ more. ap length c.as_slice.ensures.value ∙ c.in_ok-text.ensures.full more

pub returns-clause-told : goal.returns-clause-told
returns-clause-told g c =
    let came = c.in_ok-text.ensures in
    all_told c.in_ok-text.text.more c.in_ok-text.text.bytes.items _ came.front came.more c.in_ok-design.ensures.whole

pub returns-clause-source : goal.returns-clause-source
returns-clause-source g c = record {
  short = c.in_ok-text.ensures.few;
  thin = subst (λ b. IsThin b c.in_ok-design.design) c.as_slice.ensures.value c.in_ok-design.ensures.thin;
}

pub returns-in_err-design-clause-refused : goal.returns-in_err-design-clause-refused
returns-in_err-design-clause-refused g c =
    let p = err_from_is_err_and c.from_residual-in_err-design.result c.from_residual-in_err-design.ensures.1 in
    let came = c.in_ok-text.ensures in
    let fault = design_refused c.in_ok-text.text.more c.in_ok-text.text.bytes.items _ c.in_err-design.field-0.0 came.front came.more (subst (λ b. IsFault b c.in_ok-text.text.more c.in_err-design.field-0.0) c.as_slice.ensures.value c.in_err-design.ensures.refused) in
    handed part.Design c.from_residual-in_err-design.result p.0 _ _ p.1 p.2 fault
