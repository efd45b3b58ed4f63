use Rattle.std.proofs.Common.{◌∙◌, ◌&&◌, min, false, Some, refl, ap, subst}
use Rattle.vod_width.specs.declared.decls.Declared.TheVariants as stands
use Rattle.vod_operand.specs.Operands.{number_where}
use Rattle.vod_width.specs.Sizes.{is_constant, in_vector, look_range}
use Rattle.vod_width.specs.declared.limit.Limit.{Limit}
use Rattle.vod_width.specs.View.{allows, AreBounds}
use Rattle.vod_operand.specs.FoundLaws.{sees_of}
use Rattle.vod_width.proofs.Ranges.{range_width, range_tree}
use Rattle.vod_width.proofs.select.part_select.Goals as goal

pub returns : goal.returns
returns c = λ x y sx sy.
    let v = c.args.v.now in
    let b = c.in_ok-bounds.bounds in
    let P : Limit → Type 0 = λ l. AreBounds (allows l) b x y in
    let found = subst P c.in_vector.ensures.limit (c.in_ok-bounds.ensures x y sx sy) in
    sees_of c.unplaced.result (look_range 0 (Some (stands.Vector v)) x y) c.capped.result false c.both_hold-constant.result c.tree_unless-tree.result c.unplaced.ensures refl
    (range_width c.capped.result c.selected-count.result b.msb b.lsb (number_where (in_vector v) x) (number_where (in_vector v) y) c.capped.ensures c.selected-count.ensures found.msb found.lsb) refl
    (c.both_hold-constant.ensures ∙ ap (λ k. k && b.constant) c.is_constant.ensures ∙ ap (λ k. is_constant v.name && k) found.constant)
    (range_tree v x y b.msb b.lsb c.selected-count.result c.byte-low.result b.fault c.tree_unless-tree.result found.msb found.lsb found.fault c.selected-count.ensures
    (c.byte-low.ensures ∙ ap (λ n. min n 255) c.above.ensures) c.in_vector.ensures.small c.tree_unless-tree.ensures)
