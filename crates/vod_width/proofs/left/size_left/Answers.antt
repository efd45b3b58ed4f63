use Rattle.std.proofs.Common.{◌∙◌, sym, ap}
use Rattle.vod_width.specs.Lefts.{look_left, laid}
use Rattle.vod_width.proofs.LeftSides.{parts_here, parts_gone}
use Rattle.vod_width.proofs.Refuse.{refused}
use Rattle.vod_width.proofs.left.size_left.Goals as goal

pub returns-in_ok-laid-in-Ok : goal.returns-in_ok-laid-in-Ok
returns-in_ok-laid-in-Ok c =
    let y = look_left c.args.decls.now c.args.left.now in
    let found = parts_here c.in_ok-x.x y c.in-Ok.parts (sym c.in-Ok.is) c.in_ok-x.ensures in
    (found.0, c.in_ok-laid-in-Ok.ensures ∙ ap laid (c.in-Ok.parts-is ∙ found.1))

pub returns-in-Err : goal.returns-in-Err
returns-in-Err c =
    let y = look_left c.args.decls.now c.args.left.now in
    rw c.refusal.ensures (refused c.in-Err.f y.faults (parts_gone c.in_ok-x.x y c.in-Err.f (sym c.in-Err.is) c.in_ok-x.ensures))
