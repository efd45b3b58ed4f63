use Rattle.std.proofs.Common.{false, sym, refl, subst, arith, ◌&&◌}
use Rattle.vod_operand.specs.Found.{Sees}
use Rattle.vod_width.specs.declared.decls.Sort.{Sort}
use Rattle.vod_width.specs.Sizes.{in_some_range, range_faults, open_range}
use Rattle.vod_width.proofs.Ranges.{open_sees}
use Rattle.vod_width.proofs.select.range_open.Goals as goal

pub returns-in-Net : goal.returns-in-Net
returns-in-Net c = λ x y sx sy.
    let r = c.left_open.result in
    let b = c.in_ok-bounds.ensures x y sx sy in
    let P : Sort → Type 0 = λ z. Sees r (open_range c.args.place z x y) in
    subst P (sym c.in-Net.is) (open_sees r 0 false false c.in_ok-bounds.bounds.fault (range_faults in_some_range x y) c.left_open.ensures (omega arith) refl b.fault)

pub returns-in-Constant : goal.returns-in-Constant
returns-in-Constant c = λ x y sx sy.
    let r = c.left_open-in-Constant.result in
    let b = c.in_ok-bounds.ensures x y sx sy in
    let P : Sort → Type 0 = λ z. Sees r (open_range c.args.place z x y) in
    subst P (sym c.in-Constant.is)
    (open_sees r 0 c.in_ok-bounds.bounds.constant (x.constant && y.constant) c.in_ok-bounds.bounds.fault (range_faults in_some_range x y) c.left_open-in-Constant.ensures (omega arith) b.constant b.fault)
