use Rattle.std.proofs.Common.{[], sym, subst}
use Rattle.vod_bits.specs.Bit.{BX}
use Rattle.vod_design.specs.declared.sized.SizedExpr.{SizedExpr}
use Rattle.vod_design.specs.Run.{eval, nothing}
use Rattle.vod_width.specs.Sizes.{look}
use Rattle.vod_width.proofs.Arms.{saw}
use Rattle.vod_width.proofs.Refuse.{IsKnown, constant_here, constant_gone}
use Rattle.vod_width.proofs.sizing.constant.Goals as goal

pub returns-in-Ok : goal.returns-in-Ok
returns-in-Ok c =
    let y = look c.args.params.now c.args.expr.now in
    let s = saw c.args.params.now c.in_ok-x.x c.args.expr.now c.in_ok-x.ensures in
    let P : SizedExpr → Type 0 = λ e. IsKnown c.known.result (eval BX [] (nothing BX) [] e) c.in_ok-x-2.x.constant c.in_ok-x-2.x.signed c.in_ok-x-2.x.place in
    constant_here c.known.result c.in_ok-x-2.x y c.in-Ok.e (sym c.in-Ok.is) (c.in_ok-x-2.ensures y s.sees s.refits s.narrow) (subst P c.in-Ok.e-is c.known.ensures)

pub returns-in-Err : goal.returns-in-Err
returns-in-Err c =
    let y = look c.args.params.now c.args.expr.now in
    let s = saw c.args.params.now c.in_ok-x.x c.args.expr.now c.in_ok-x.ensures in
    let fault = constant_gone c.in_ok-x-2.x y c.in-Err.f (sym c.in-Err.is) (c.in_ok-x-2.ensures y s.sees s.refits s.narrow) in
    rw (c.refusal.ensures, c.fault_beside.ensures) fault
