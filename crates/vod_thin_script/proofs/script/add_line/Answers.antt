-- A line is of one vector.
use Rattle.std.proofs.Common.{◌≡◌, sym, ap, subst, Err, [], ◌∷◌, ◌++◌}
use Rattle.vod_thin_design.specs.Netlist.{Netlist}
use Rattle.vod_thin_design.specs.Vectors.{IsLawful}
use Rattle.std.proofs.lemmas.Result.{err_from_is_err_and}
use Rattle.vod_thin_script.specs.declared.line.LineFault.TheVariants.{Refused}
use Rattle.vod_thin_script.proofs.Progress.{vector_line, not_lawful}
use Rattle.vod_thin_script.proofs.script.add_line.Goals as goal

pub returns-in_err-vector-clause-refused : goal.returns-in_err-vector-clause-refused
returns-in_err-vector-clause-refused c = λ refused v l lawful.
    let p = err_from_is_err_and c.from_residual.result c.from_residual.ensures.1 in
    let gives = p.1 in
    let same = p.2 in
    let fault : c.in_err-vector.field-0.0 ≡ Refused = cc in
    c.in_err-vector.ensures.refused (ap (λ e. Err e) fault) v (vector_line _ _ _ v l lawful)

pub returns-in_err-add-clause-refused : goal.returns-in_err-add-clause-refused
returns-in_err-add-clause-refused c = λ refused v l lawful.
    let p = err_from_is_err_and c.from_residual-in_err-add.result c.from_residual-in_err-add.ensures.1 in
    let gives = p.1 in
    let fault : p.0 ≡ Refused = cc in
    not_lawful c.args.inputs.now c.requires.names c.args.line.now _ c.in_ok-vector.vector c.in_ok-vector.ensures.vector c.in_err-add.field-0.0 p.0 p.2 fault
    (λ is allowed. c.in_err-add.ensures.refused (ap (λ e. Err e) is) (subst (λ (d : Netlist). IsLawful d (c.args.past.now.vectors ++ c.in_ok-vector.vector ∷ [])) (sym c.requires.same) allowed)) v l lawful
