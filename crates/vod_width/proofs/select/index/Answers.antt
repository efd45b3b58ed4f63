use Rattle.std.proofs.Common.{◌∙◌, Option, ap, subst}
use Rattle.vod_operand.specs.Found.{Sees}
use Rattle.vod_operand.specs.FoundLaws.{ifok}
use Rattle.vod_width.specs.declared.decls.Declared.{Declared}
use Rattle.vod_width.specs.Names.{declared}
use Rattle.vod_width.specs.Sizes.{look_index}
use Rattle.vod_width.proofs.select.index.Goals as goal

pub returns : goal.returns
returns c = ifok c.index_of.result c.index_of.ensures (λ z h y s.
    let P : Option Declared → Type 0 = λ d. Sees z (look_index c.args.place d y) in
    subst P (c.get.ensures ∙ ap (declared c.args.decls.now) c.as_slice.ensures) (h y (c.in_ok-i.ensures y s.sees s.refits s.narrow)))
