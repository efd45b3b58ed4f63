use Rattle.std.proofs.Common.{false, refl, Some}
use Rattle.vod_width.specs.Sizes.{look_index}
use Rattle.vod_width.specs.declared.decls.Declared.TheVariants as stands
use Rattle.vod_operand.specs.FoundLaws.{sees_of}
use Rattle.vod_width.proofs.Selects.{word_value}
use Rattle.vod_width.proofs.select.word_index.Goals as goal

pub returns : goal.returns
returns c = λ y s constant.
    let m = c.args.m.now in
    sees_of c.unplaced.result (look_index 0 (Some (stands.Ram m)) y) c.capped.result false false c.in_ok-tree.tree c.unplaced.ensures refl c.capped.ensures refl refl
    (word_value m y c.args.i.tree c.in_ok-tree.tree (c.in_ok-tree.ensures) s.tree constant)
