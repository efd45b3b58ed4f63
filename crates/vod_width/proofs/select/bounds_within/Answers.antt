use Rattle.std.proofs.Common.{◌∙◌, ◌&&◌, cond, [], ◌∷◌, ap}
use Rattle.vod_operand.specs.declared.fault.Fault.TheVariants.{Rule}
use Rattle.vod_operand.specs.Operands.{known_natural, unless, join}
use Rattle.vod_operand.specs.Found.{fault_if}
use Rattle.vod_width.specs.Sizes.{in_wrong_order}
use Rattle.vod_width.specs.View.{allows}
use Rattle.vod_width.proofs.Ranges.{order_is, faults_joined}
use Rattle.vod_width.proofs.select.bounds_within.Goals as goal

pub returns : goal.returns
returns c = λ x y sx sy.
    let T = allows c.args.limit in
    let m = c.in_ok-msb.ensures x sx in
    let l = c.in_ok-lsb.ensures y sy in
    let a = c.in_ok-msb.msb in
    let b = c.in_ok-lsb.lsb in
    let O = in_wrong_order (known_natural x) (known_natural y) in
    let turned = c.in_wrong_order.ensures ∙ ap (λ o. in_wrong_order o b.natural) m.natural ∙ ap (in_wrong_order (known_natural x)) l.natural in
    let order = c.fault_if-order.ensures ∙ ap (λ t. fault_if t c.args.a.now.place) turned ∙ ap (fault_if O) sx.place ∙ order_is O x.place in
    record {
      msb = m.number;
      lsb = l.number;
      constant = c.both_hold.ensures ∙ ap (λ k. k && b.constant) m.constant ∙ ap (λ k. x.constant && k) l.constant;
      fault =
          c.join-2.ensures ∙ ap (λ z. join z c.fault_if-order.result) c.join.ensures
          ∙ faults_joined x.faults (unless T x) y.faults (unless T y) (cond O (Rule x.place ∷ []) []) a.fault b.fault c.fault_if-order.result m.fault l.fault order;
    }
