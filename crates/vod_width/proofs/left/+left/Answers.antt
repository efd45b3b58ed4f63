-- What each kind of left side gives, from what its parts give.
use Rattle.std.proofs.Common.{◌∙◌, List, map, take, sym, subst, arith}
use Rattle.vod_tree.specs.declared.statement.Lval.{Lval}
use Rattle.vod_tree.specs.declared.statement.LvalKind.TheOpen.{LvalKind-F}
use Rattle.vod_tree.specs.declared.statement.LvalKind.TheVariants.{rolls-Name, rolls-Index, rolls-Range, rolls-Concat}
use Rattle.vod_operand.specs.FoundLaws.{ifok}
use Rattle.vod_width.specs.Lefts.{LookedLeft, look_left}
use Rattle.vod_width.specs.SeesLeft.{SeesLefts}
use Rattle.vod_width.proofs.LeftSides.{left_arm, left_sees, lefts_more, lefts_next}
use Rattle.vod_width.proofs.left.+left.Goals as goal

pub look_left-returns : goal.look_left-returns
look_left-returns t c = left_sees c.args.decls.now c.args.left.now c.left_at.result c.in_ok-x.x c.in_ok-x.ensures c.left_at.ensures

pub look_left_kind-returns-in-Name : goal.look_left_kind-returns-in-Name
look_left_kind-returns-in-Name t c = ifok c.left_name.result c.left_name.ensures (λ v h.
    left_arm c.args.decls.now c.args.left.now (LvalKind-F.Name c.in-Name.ident) v (c.in-Name.is ∙ sym (rolls-Name c.in-Name.ident)) h)

pub look_left_kind-returns-in-Index : goal.look_left_kind-returns-in-Index
look_left_kind-returns-in-Index t c = ifok c.left_index.result c.left_index.ensures (λ v h.
    left_arm c.args.decls.now c.args.left.now (LvalKind-F.Index c.in-Index.ident c.in-Index.i) v (c.in-Index.is ∙ sym (rolls-Index c.in-Index.ident c.in-Index.i)) h)

pub look_left_kind-returns-in-Range : goal.look_left_kind-returns-in-Range
look_left_kind-returns-in-Range t c = ifok c.left_range.result c.left_range.ensures (λ v h.
    left_arm c.args.decls.now c.args.left.now (LvalKind-F.Range c.in-Range.ident c.in-Range.a c.in-Range.b) v (c.in-Range.is ∙ sym (rolls-Range c.in-Range.ident c.in-Range.a c.in-Range.b)) h)

pub look_left_kind-returns-in_ok-look_lefts-in-Concat : goal.look_left_kind-returns-in_ok-look_lefts-in-Concat
look_left_kind-returns-in_ok-look_lefts-in-Concat t c =
    let decls = c.args.decls.now in
    let ls = c.in-Concat.lefts in
    let P : List Lval → Type 0 = λ zs. SeesLefts c.in_ok-look_lefts-in-Concat.field-0 (map (look_left decls) zs) in
    left_arm decls c.args.left.now (LvalKind-F.Concat ls) c.left_concat.result (c.in-Concat.is ∙ sym (rolls-Concat ls))
    (c.left_concat.ensures (map (look_left decls) ls) (subst P c.as_slice.ensures c.in_ok-look_lefts-in-Concat.ensures))

pub look_lefts-loop-left-preserved : goal.look_lefts-loop-left-preserved
look_lefts-loop-left-preserved t c =
    let decls = c.args.decls.now in
    let ls = c.args.lefts.now in
    let i = c.loop-left.left-index in
    let l = c.left-item.result in
    let more = c.in_ok-all.ensures in
    let P : List LookedLeft → Type 0 = λ ys. SeesLefts c.in_ok-all.all ys in
    subst P (lefts_next decls ls i l c.left-item.is (omega arith))
    (lefts_more c.loop-left.all c.in_ok-all.all c.in_ok-x.x (map (look_left decls) (take i ls)) (look_left decls l) c.loop-left.invariant c.in_ok-x.ensures more.0 more.1 more.2)
