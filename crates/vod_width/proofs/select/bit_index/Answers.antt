use Rattle.std.proofs.Common.{◌&&◌, false, refl, ◌∙◌, ap, Some}
use Rattle.vod_width.specs.Sizes.{is_constant, look_index}
use Rattle.vod_width.specs.declared.decls.Declared.TheVariants as stands
use Rattle.vod_operand.specs.FoundLaws.{sees_of}
use Rattle.vod_width.proofs.Selects.{bit_value}
use Rattle.vod_width.proofs.select.bit_index.Goals as goal

pub returns : goal.returns
returns c = λ y s constant.
    let v = c.args.v.now in
    sees_of c.unplaced.result (look_index 0 (Some (stands.Vector v)) y) 1 false c.both_hold-constant.result c.in_ok-tree.tree c.unplaced.ensures refl refl refl
    (c.both_hold-constant.ensures ∙ ap (λ b. b && c.args.i.constant) c.is_constant.ensures ∙ ap (λ b. is_constant v.name && b) s.constant)
    (bit_value v y c.args.i.tree c.in_ok-tree.tree (c.in_ok-tree.ensures) s.tree constant)
