use Rattle.vod_width.proofs.Ranges.{bounds_misused}
use Rattle.vod_width.proofs.select.misused_bounds.Goals as goal

pub returns : goal.returns
returns c = λ x y s t.
    bounds_misused c.misused.result c.args.a.now c.args.b.now x y c.args.place c.fault_of.result c.fault_of-2.result c.join.result c.misused.ensures c.join.ensures c.fault_of.ensures c.fault_of-2.ensures s t
