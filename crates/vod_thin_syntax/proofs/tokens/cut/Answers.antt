use Rattle.std.proofs.Common.{[], arith, sym, subst, ◌∙◌, append-nil, Some}
use Rattle.vod_thin_syntax.proofs.TokenLaws.{skip_step, stop_step, read_all}
use Rattle.vod_thin_syntax.specs.Tokens.{Falls, HoldsNone}
use Rattle.vod_thin_syntax.proofs.tokens.cut.Goals as goal

pub loop-at-preserved-then-is_white : goal.loop-at-preserved-then-is_white
loop-at-preserved-then-is_white c =
    let lt = c.loop-at-test.true in
    record {
      within = omega arith;
      reads = λ ts stop more. c.loop-at.invariant.reads ts stop (skip_step c.args.source.now c.loop-at.at ts stop lt (sym c.is_white.ensures ∙ c.if-is_white.true) more);
    }

pub returns-in-None : goal.returns-in-None
returns-in-None c =
    subst (λ ts. Falls 0 c.args.source.now ts (Some c.loop-at.at)) (append-nil c.loop-at.list.items)
    (c.loop-at.invariant.reads [] (Some c.loop-at.at) (stop_step c.args.source.now c.loop-at.at c.loop-at-test.true (sym c.is_white.ensures ∙ c.if-is_white.false) (subst HoldsNone c.rest_from.ensures (c.in-None.ensures.none))))

pub returns : goal.returns
returns c = read_all c.args.source.now c.loop-at.at c.loop-at.list.items c.loop-at-test.false c.loop-at.invariant.reads
