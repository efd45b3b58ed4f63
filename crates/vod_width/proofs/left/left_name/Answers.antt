use Rattle.std.proofs.Common.{◌∙◌, Option, ap, subst}
use Rattle.vod_operand.specs.FoundLaws.{ifok}
use Rattle.vod_width.specs.declared.decls.Declared.{Declared}
use Rattle.vod_width.specs.Names.{declared}
use Rattle.vod_width.specs.Sizes.{look_name}
use Rattle.vod_width.specs.Lefts.{left_of}
use Rattle.vod_width.specs.SeesLeft.{NearLeft}
use Rattle.vod_width.proofs.Arms.{named_sees}
use Rattle.vod_width.proofs.left.left_name.Goals as goal

pub returns : goal.returns
returns c = ifok c.leaf.result c.leaf.ensures (λ v h.
    let d = declared c.args.decls.now c.args.ident.now.name in
    let x = look_name c.args.place d in
    let P : Option Declared → Type 0 = λ z. NearLeft v (left_of c.args.place z x) in
    subst P (c.get.ensures ∙ ap (declared c.args.decls.now) c.as_slice.ensures) (h x (named_sees c.name-x.result c.args.place d c.name-x.ensures)))
