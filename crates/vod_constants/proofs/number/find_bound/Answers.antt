use Rattle.vod_width.specs.Sizes.{look}
use Rattle.vod_constants.proofs.Facts.{look_place, bound_formed}
use Rattle.vod_constants.proofs.number.find_bound.Goals as goal

pub returns-in-Ok : goal.returns-in-Ok
returns-in-Ok c =
    let s = c.in-Ok.ensures in
    bound_formed (look c.args.decls.now c.args.expr.now) c.in-Ok.constant.value c.in-Ok.constant.signed _ _ _ c.args.expr.now.place s.0 s.1 s.2 (look_place c.args.decls.now c.args.expr.now)
    c.natural-natural.ensures c.index-index.ensures c.missing-fault.ensures
