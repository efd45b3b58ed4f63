use Rattle.std.proofs.Common.{◌≡◌, ◌<◌, ◌+◌, ◌++◌, [], length, drop, arith, sym, ◌∙◌, ap, subst, Some}
use Rattle.std.proofs.lemmas.Grind.{common_steps}
use Rattle.std.proofs.lemmas.List.{drop-drop}
use Rattle.std.proofs.lemmas.Result.{err_from_is_err_and}
use Rattle.vod_token.proofs.Layouts.{layout_sound}
use Rattle.vod_token.proofs.Cuts.{skip_step}
use Rattle.vod_token.proofs.Readings.{cut_fault, read_all}
use Rattle.vod_token.specs.Cut.{Falls}
use Rattle.vod_token.specs.Scan.{layout_len}
use Rattle.vod_token.proofs.cut.cut.Goals as goal

skipped : (c : goal.In-Some) → layout_len (drop c.loop-at.at c.args.source.now) ≡ Some c.in-Some.len
skipped c = ap layout_len (sym c.rest_from-rest.ensures) ∙ sym c.in-Some.ensures.value

pub loop-at-smaller-in-Some : goal.loop-at-smaller-in-Some
loop-at-smaller-in-Some c = let some = (layout_sound (drop c.loop-at.at c.args.source.now) c.in-Some.len (skipped c)).some in let lt = c.loop-at-test.true in omega arith

pub loop-at-preserved-in-Some : goal.loop-at-preserved-in-Some
loop-at-preserved-in-Some c =
    let begun = layout_sound (drop c.loop-at.at c.args.source.now) c.in-Some.len (skipped c) in
    let within = begun.within in
    let lt : c.loop-at.at < length c.args.source.now = c.loop-at-test.true in
    record {
      within = grind (arith, common_steps);
      reads = λ ts fault more. c.loop-at.invariant.reads ts fault (skip_step c.loop-at.at (drop c.loop-at.at c.args.source.now) c.in-Some.len ts fault (skipped c)
          (subst (λ xs. Falls (c.loop-at.at + c.in-Some.len) xs ts fault) (sym (drop-drop c.in-Some.len c.loop-at.at c.args.source.now)) more));
    }

pub returns-in_err-token-in-None-clause-err : goal.returns-in_err-token-in-None-clause-err
returns-in_err-token-in-None-clause-err c =
    let p = err_from_is_err_and c.from_residual.result c.from_residual.ensures.1 in
    let stop : Falls c.loop-at.at (drop c.loop-at.at c.args.source.now) [] (Some c.in_err-token-in-None.field-0.0) =
    subst (λ xs. Falls c.loop-at.at xs [] (Some c.in_err-token-in-None.field-0.0)) c.rest_from-rest.ensures c.in_err-token-in-None.ensures.err in
    rw (p.1, p.2) (cut_fault c.args.source.now (c.loop-at.tokens.items ++ []) c.in_err-token-in-None.field-0.0 (c.loop-at.invariant.reads [] (Some c.in_err-token-in-None.field-0.0) stop))

pub returns-clause-ok : goal.returns-clause-ok
returns-clause-ok c = read_all c.args.source.now c.loop-at.at c.loop-at.tokens.items c.loop-at-test.false c.loop-at.invariant.reads
