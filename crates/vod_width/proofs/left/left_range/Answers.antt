use Rattle.std.proofs.Common.{◌∙◌, Option, refl, ap, subst}
use Rattle.vod_operand.specs.FoundLaws.{ifok}
use Rattle.vod_width.specs.declared.decls.Declared.{Declared}
use Rattle.vod_width.specs.Names.{declared}
use Rattle.vod_width.specs.Sizes.{look_range, look}
use Rattle.vod_width.specs.Lefts.{left_of}
use Rattle.vod_width.specs.SeesLeft.{NearLeft}
use Rattle.vod_width.proofs.Arms.{kind_sees, seen}
use Rattle.vod_width.proofs.left.left_range.Goals as goal

pub returns : goal.returns
returns c = ifok c.leaf.result c.leaf.ensures (λ v h.
    let decls = c.args.decls.now in
    let d = declared decls c.args.ident.now.name in
    let a = look decls c.args.a.now in
    let b = look decls c.args.b.now in
    let x = look_range c.args.place d a b in
    let P : Option Declared → Type 0 = λ z. NearLeft v (left_of c.args.place z x) in
    subst P (c.get.ensures ∙ ap (declared decls) c.as_slice.ensures)
    (h x (kind_sees c.in_ok-x.x x (c.in_ok-x.ensures a b
    (seen decls c.look_expr-first.result c.in_ok-msb.msb c.args.a.now c.args.a.now c.look_expr-first.ensures c.in_ok-msb.ensures.0 refl)
    (seen decls c.look_expr-last.result c.in_ok-msb.lsb c.args.b.now c.args.b.now c.look_expr-last.ensures c.in_ok-msb.ensures.1 refl)))))
