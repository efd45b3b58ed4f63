use Rattle.std.proofs.Common.{min, false, refl, ◌∙◌, ap, subst, Some}
use Rattle.vod_design.specs.declared.sized.NamedMemory.{NamedMemory}
use Rattle.vod_design.specs.declared.sized.SizedKind.TheVariants as kind
use Rattle.vod_operand.specs.Found.{tree_unless}
use Rattle.vod_width.specs.Sizes.{look_index}
use Rattle.vod_width.specs.declared.decls.Declared.TheVariants as stands
use Rattle.vod_width.specs.declared.limit.Limit.{Limit}
use Rattle.vod_width.specs.View.{allows, IsNumbered}
use Rattle.vod_operand.specs.FoundLaws.{sees_of}
use Rattle.vod_width.proofs.Selects.{word_tree}
use Rattle.vod_width.proofs.select.word_select.Goals as goal

pub returns : goal.returns
returns c = λ y s constant.
    let m = c.args.m.now in
    let n = c.in_ok-n.n in
    let P : Limit → Type 0 = λ l. IsNumbered (allows l) n y in
    let found = subst P c.in_ram.ensures.limit (c.in_ok-n.ensures y s) in
    sees_of c.unplaced.result (look_index 0 (Some (stands.Ram m)) y) c.capped.result false false c.tree_unless-tree.result c.unplaced.ensures refl c.capped.ensures refl refl
    (word_tree m y n.number c.two_bytes-place.result n.fault c.tree_unless-tree.result found.number found.fault (c.two_bytes-place.ensures ∙ ap (λ k. min k 65535) c.above.ensures) c.in_ram.ensures.small
    (c.tree_unless-tree.ensures ∙ ap (λ (k : NamedMemory). tree_unless n.fault (kind.Word k c.two_bytes-place.result)) c.memory.ensures) constant)
