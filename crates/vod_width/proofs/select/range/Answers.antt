use Rattle.std.proofs.Common.{◌∙◌, Option, ap, subst}
use Rattle.vod_operand.specs.Found.{Sees}
use Rattle.vod_operand.specs.FoundLaws.{ifok}
use Rattle.vod_width.specs.declared.decls.Declared.{Declared}
use Rattle.vod_width.specs.Names.{declared}
use Rattle.vod_width.specs.Sizes.{look_range}
use Rattle.vod_width.proofs.select.range.Goals as goal

pub returns : goal.returns
returns c = ifok c.range_of-found.result c.range_of-found.ensures (λ z h x y sx sy.
    let P : Option Declared → Type 0 = λ d. Sees z (look_range c.args.place d x y) in
    subst P (c.get.ensures ∙ ap (declared c.args.decls.now) c.as_slice.ensures)
    (h x y (c.in_ok-a.ensures.0 x sx.sees sx.refits sx.narrow) (c.in_ok-a.ensures.1 y sy.sees sy.refits sy.narrow)))
