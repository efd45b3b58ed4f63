use Rattle.std.proofs.Common.{◌∙◌, Option, ap, subst}
use Rattle.vod_operand.specs.FoundLaws.{ifok}
use Rattle.vod_width.specs.declared.decls.Declared.{Declared}
use Rattle.vod_width.specs.Names.{declared}
use Rattle.vod_width.specs.Sizes.{look_index, look}
use Rattle.vod_width.specs.Lefts.{left_of}
use Rattle.vod_width.specs.SeesLeft.{NearLeft}
use Rattle.vod_width.proofs.Arms.{kind_sees, saw}
use Rattle.vod_width.proofs.left.left_index.Goals as goal

pub returns : goal.returns
returns c = ifok c.leaf.result c.leaf.ensures (λ v h.
    let d = declared c.args.decls.now c.args.ident.now.name in
    let i = look c.args.decls.now c.args.i.now in
    let x = look_index c.args.place d i in
    let P : Option Declared → Type 0 = λ z. NearLeft v (left_of c.args.place z x) in
    subst P (c.get.ensures ∙ ap (declared c.args.decls.now) c.as_slice.ensures)
    (h x (kind_sees c.in_ok-x.x x (c.in_ok-x.ensures i (saw c.args.decls.now c.in_ok-i.i c.args.i.now c.in_ok-i.ensures)))))
