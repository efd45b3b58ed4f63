use Rattle.std.proofs.Common.{◌+◌, map, sym, ◌∙◌, ap}
use Rattle.vod_compiled.specs.Steps.{world}
use Rattle.vod_compiled.proofs.Loop.{step_more, next_place, at_end}
use Rattle.vod_compiled.proofs.exec.run.Goals as goal

pub loop-at-preserved : goal.loop-at-preserved
loop-at-preserved g c =
    let w = world g.V.Value.fill (g.T.Tables.values c.args.tables.now) in
    next_place w c.args.steps.now c.loop-at.at c.perform-behind.result _ (map g.V.Value.bits c.perform-behind.new.cells) c.loop-at-test.true c.next_place-at.ensures
    ∙ sym (step_more w c.args.steps.now c.loop-at.at c.index-steps-at.result (map g.V.Value.bits c.loop-at.cells) (map g.V.Value.bits c.perform-behind.new.cells) c.perform-behind.result c.loop-at-test.true c.index-steps-at.is c.perform-behind.ensures.cells c.perform-behind.ensures.skips)
    ∙ c.loop-at.invariant

pub returns : goal.returns
returns g c =
    let w = world g.V.Value.fill (g.T.Tables.values c.args.tables.now) in
    at_end w c.args.steps.now c.loop-at.at (map g.V.Value.bits c.loop-at.cells) c.loop-at-test.false ∙ c.loop-at.invariant
