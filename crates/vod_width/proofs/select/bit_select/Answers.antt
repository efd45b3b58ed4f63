use Rattle.std.proofs.Common.{◌&&◌, min, false, refl, ◌∙◌, ap, subst, Some}
use Rattle.vod_width.specs.Sizes.{is_constant, look_index}
use Rattle.vod_width.specs.declared.decls.Declared.TheVariants as stands
use Rattle.vod_width.specs.declared.limit.Limit.{Limit}
use Rattle.vod_width.specs.View.{allows, IsNumbered}
use Rattle.vod_operand.specs.FoundLaws.{sees_of}
use Rattle.vod_width.proofs.Selects.{bit_tree}
use Rattle.vod_width.proofs.select.bit_select.Goals as goal

pub returns : goal.returns
returns c = λ y s constant.
    let v = c.args.v.now in
    let n = c.in_ok-n.n in
    let P : Limit → Type 0 = λ l. IsNumbered (allows l) n y in
    let found = subst P c.in_vector.ensures.limit (c.in_ok-n.ensures y s) in
    sees_of c.unplaced.result (look_index 0 (Some (stands.Vector v)) y) 1 false c.both_hold-constant.result c.tree_unless-tree.result c.unplaced.ensures refl refl refl
    (c.both_hold-constant.ensures ∙ ap (λ b. b && c.args.i.now.constant) c.is_constant.ensures ∙ ap (λ b. is_constant v.name && b) s.constant)
    (bit_tree v y n.number c.byte-low.result n.fault c.tree_unless-tree.result found.number found.fault (c.byte-low.ensures ∙ ap (λ k. min k 255) c.above.ensures) c.in_vector.ensures.small
    c.tree_unless-tree.ensures constant)
