use Rattle.std.proofs.Common.{◌≡◌, ◌∙◌, refl, sym, subst, Err, inl, inr}
use Rattle.std.proofs.lemmas.Result.{err_from_is_err_and}
use Rattle.vod_thin_script.specs.Script.{IsScript}
use Rattle.vod_thin_script.specs.Fault.{IsFault}
use Rattle.vod_program.specs.declared.status.Part.TheVariants as part
use Rattle.vod_program.proofs.PhaseLaws.{all_told, script_long, script_refused, handed}
use Rattle.vod_program.proofs.phase.vectors_of.Goals as goal

pub returns-clause-vectors : goal.returns-clause-vectors
returns-clause-vectors g c =
    let came = c.in_ok-text.ensures in
    let told = all_told c.in_ok-text.text.more c.in_ok-text.text.bytes.items _ came.front came.more c.if-text.false in
    λ text e. subst (λ b. IsScript c.args.design.now b c.in_ok-past.past.vectors) (c.as_slice.ensures.value ∙ sym (told text e)) c.in_ok-past.ensures.vectors

pub returns-then-text-clause-refused : goal.returns-then-text-clause-refused
returns-then-text-clause-refused g c = inr (inr (0, refl, script_long c.in_ok-text.text.more c.args.design.now _ c.in_ok-text.ensures.more c.if-text.true))

pub returns-in_err-past-clause-refused : goal.returns-in_err-past-clause-refused
returns-in_err-past-clause-refused g c =
    let p = err_from_is_err_and c.from_residual-in_err-past.result c.from_residual-in_err-past.ensures.1 in
    let came = c.in_ok-text.ensures in
    let told = all_told c.in_ok-text.text.more c.in_ok-text.text.bytes.items _ came.front came.more c.if-text.false in
    let fault = script_refused c.args.design.now c.in_ok-text.text.bytes.items _ c.in_err-past.field-0.0 told (subst (λ b. IsFault c.args.design.now b c.in_err-past.field-0.0) c.as_slice.ensures.value c.in_err-past.ensures.refused) in
    handed part.Script c.from_residual-in_err-past.result p.0 _ _ p.1 p.2 fault
