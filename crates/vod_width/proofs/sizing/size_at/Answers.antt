use Rattle.std.proofs.Common.{◌∙◌, sym}
use Rattle.vod_width.specs.Sizes.{look}
use Rattle.vod_operand.specs.FoundLaws.{here, gone}
use Rattle.vod_width.proofs.Arms.{saw}
use Rattle.vod_width.proofs.Refuse.{refused}
use Rattle.vod_width.proofs.sizing.size_at.Goals as goal

pub returns-in-Ok : goal.returns-in-Ok
returns-in-Ok c =
    let y = look c.args.decls.now c.args.expr.now in
    let s = saw c.args.decls.now c.in_ok-x.x c.args.expr.now c.in_ok-x.ensures in
    let found = here c.in_ok-x-2.x y c.in-Ok.e (y.sized c.args.width c.args.signed) (sym c.in-Ok.is) (c.in_ok-x-2.ensures y s.sees s.refits) in
    (found.0, c.in-Ok.e-is ∙ found.1)

pub returns-in-Err : goal.returns-in-Err
returns-in-Err c =
    let y = look c.args.decls.now c.args.expr.now in
    let s = saw c.args.decls.now c.in_ok-x.x c.args.expr.now c.in_ok-x.ensures in
    let fault = gone c.in_ok-x-2.x y c.in-Err.f (y.sized c.args.width c.args.signed) (sym c.in-Err.is) (c.in_ok-x-2.ensures y s.sees s.refits) in
    rw c.refusal.ensures (refused c.in-Err.f y.faults fault)
