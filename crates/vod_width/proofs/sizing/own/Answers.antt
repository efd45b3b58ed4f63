use Rattle.vod_width.specs.Sizes.{look}
use Rattle.vod_width.proofs.Arms.{saw}
use Rattle.vod_width.proofs.Refuse.{own_here}
use Rattle.vod_width.proofs.sizing.own.Goals as goal

pub returns-in-None : goal.returns-in-None
returns-in-None c =
    let y = look c.args.decls.now c.args.expr.now in
    let s = saw c.args.decls.now c.in_ok-x.x c.args.expr.now c.in_ok-x.ensures in
    let found = own_here c.in_ok-x.x y c.in-None.ensures s.sees s.narrow in
    (found.0, (found.1, found.2, found.3))
