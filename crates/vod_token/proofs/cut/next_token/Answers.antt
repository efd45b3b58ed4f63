use Rattle.std.proofs.Common.{arith, sym, ◌∙◌}
use Rattle.std.proofs.lemmas.Result.{err_from_is_err_and}
use Rattle.vod_token.proofs.Cuts.{taken, refused}
use Rattle.vod_token.proofs.Readings.{continues}
use Rattle.vod_token.proofs.cut.next_token.Goals as goal

pub returns-in_err-kind-clause-err : goal.returns-in_err-kind-clause-err
returns-in_err-kind-clause-err c =
    let stop = refused c.args.at c.args.rest.now c.in_err-kind.field-0.0 (sym c.token_at.ensures ∙ c.in_err-kind.was) c.requires.some c.requires.dark in
    let p = err_from_is_err_and c.from_residual.result c.from_residual.ensures.1 in
    rw (p.1, p.2) stop

pub overflow_add-result : goal.overflow_add-result
overflow_add-result c =
    let within = (taken c.args.at c.args.rest.now c.in_ok-kind.kind c.in_ok-kind.len (sym c.token_at.ensures ∙ c.in_ok-kind.was)).within in
    omega arith

pub overflow_cast-result-2 : goal.overflow_cast-result-2
overflow_cast-result-2 c =
    let within = (taken c.args.at c.args.rest.now c.in_ok-kind.kind c.in_ok-kind.len (sym c.token_at.ensures ∙ c.in_ok-kind.was)).within in
    omega arith

pub returns-clause-ok : goal.returns-clause-ok
returns-clause-ok c = continues c.args.at c.args.rest.now c.in_ok-kind.kind c.in_ok-kind.len (sym c.token_at.ensures ∙ c.in_ok-kind.was)
