use Rattle.std.proofs.Common.{false, sym, refl, subst, arith}
use Rattle.vod_operand.specs.Found.{Sees}
use Rattle.vod_width.specs.declared.decls.Sort.{Sort}
use Rattle.vod_width.specs.Sizes.{in_some_range, index_faults, open_index}
use Rattle.vod_width.proofs.Ranges.{open_sees}
use Rattle.vod_width.proofs.select.index_open.Goals as goal

pub returns-in-Net : goal.returns-in-Net
returns-in-Net c = λ y s.
    let P : Sort → Type 0 = λ z. Sees c.left_open.result (open_index c.args.place z y) in
    subst P (sym c.in-Net.is) (open_sees c.left_open.result 1 false false c.in_ok-fault.fault (index_faults in_some_range y) c.left_open.ensures (omega arith) refl (c.in_ok-fault.ensures y s))

pub returns-in-Constant : goal.returns-in-Constant
returns-in-Constant c = λ y s.
    let r = c.left_open-in-Constant.result in
    let P : Sort → Type 0 = λ z. Sees r (open_index c.args.place z y) in
    subst P (sym c.in-Constant.is) (open_sees r 1 c.args.i.now.constant y.constant c.in_ok-fault.fault (index_faults in_some_range y) c.left_open-in-Constant.ensures (omega arith) s.constant (c.in_ok-fault.ensures y s))

pub returns-in-Ram : goal.returns-in-Ram
returns-in-Ram c = λ y s.
    let r = c.left_open-in-Ram.result in
    let P : Sort → Type 0 = λ z. Sees r (open_index c.args.place z y) in
    subst P (sym c.in-Ram.is) (open_sees r 0 false false c.in_ok-fault.fault (index_faults in_some_range y) c.left_open-in-Ram.ensures (omega arith) refl (c.in_ok-fault.ensures y s))
