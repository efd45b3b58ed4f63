use Rattle.std.proofs.Common.{◌+◌, ◌++◌, drop, flat_map, sym, ◌∙◌, ap, arith}
use Rattle.vod_places.specs.Places.{sooner, least}
use Rattle.vod_tree.specs.declared.statement.LvalKind.TheOpen.{LvalKind-F}
use Rattle.vod_tree.specs.declared.statement.LvalKind.TheVariants.{rolls-Name, rolls-Index, rolls-Range, rolls-Concat}
use Rattle.vod_uses.specs.Visible.{seen}
use Rattle.vod_uses.specs.Uses.{misused, misuses, left_misuses}
use Rattle.vod_uses.specs.declared.scope.Usage.TheVariants.{Target, IndexedTarget}
use Rattle.vod_uses.proofs.Layers.{left_misuses_at, flat_map_map}
use Rattle.vod_uses.proofs.Least.{two, each_step}
use Rattle.vod_uses.proofs.left.+left.Goals as goal

pub first_left_misuse_of-loop-left-preserved : goal.first_left_misuse_of-loop-left-preserved
first_left_misuse_of-loop-left-preserved t c =
    let s = seen c.args.scope.now in
    let xs = c.args.lefts.now in
    let i = c.loop-left.left-index in
    ap (λ o. sooner o (least (flat_map (left_misuses s) (drop (i + 1) xs)))) c.sooner_of-first.ensures
    ∙ each_step (left_misuses s) xs i c.left-item.result c.loop-left.first c.first_left_misuse.result (least (flat_map (left_misuses s) xs)) (omega arith) c.left-item.is c.first_left_misuse.ensures c.loop-left.invariant

pub first_left_misuse-returns-in-Name : goal.first_left_misuse-returns-in-Name
first_left_misuse-returns-in-Name t c =
    let s = seen c.args.scope.now in
    let r = left_misuses_at s c.args.left.now (LvalKind-F.Name c.in-Name.ident) (c.in-Name.is ∙ sym (rolls-Name c.in-Name.ident)) in
    c.misused.ensures ∙ ap least (sym r)

pub first_left_misuse-returns-in-Index : goal.first_left_misuse-returns-in-Index
first_left_misuse-returns-in-Index t c =
    let s = seen c.args.scope.now in
    let r = left_misuses_at s c.args.left.now (LvalKind-F.Index c.in-Index.ident c.in-Index.a) (c.in-Index.is ∙ sym (rolls-Index c.in-Index.ident c.in-Index.a)) in
    c.sooner_of.ensures ∙ two c.misused-in-Index.result c.first_misuse-index.result (misused s IndexedTarget c.in-Index.ident) (misuses s c.in-Index.a) c.misused-in-Index.ensures c.first_misuse-index.ensures ∙ ap least (sym r)

pub first_left_misuse-returns-in-Range : goal.first_left_misuse-returns-in-Range
first_left_misuse-returns-in-Range t c =
    let s = seen c.args.scope.now in
    let r = left_misuses_at s c.args.left.now (LvalKind-F.Range c.in-Range.ident c.in-Range.a c.in-Range.b) (c.in-Range.is ∙ sym (rolls-Range c.in-Range.ident c.in-Range.a c.in-Range.b)) in
    c.sooner_of-in-Range.ensures ∙ two c.misused-in-Range.result c.sooner_of-bounds.result (misused s Target c.in-Range.ident) (misuses s c.in-Range.a ++ misuses s c.in-Range.b) c.misused-in-Range.ensures (c.sooner_of-bounds.ensures ∙ two c.first_misuse.result c.first_misuse-in-Range.result (misuses s c.in-Range.a) (misuses s c.in-Range.b) c.first_misuse.ensures c.first_misuse-in-Range.ensures) ∙ ap least (sym r)

pub first_left_misuse-returns-in-Concat : goal.first_left_misuse-returns-in-Concat
first_left_misuse-returns-in-Concat t c =
    let s = seen c.args.scope.now in
    let r = left_misuses_at s c.args.left.now (LvalKind-F.Concat c.in-Concat.parts) (c.in-Concat.is ∙ sym (rolls-Concat c.in-Concat.parts)) in
    (c.first_left_misuse_of.ensures ∙ ap (λ zs. least (flat_map (left_misuses s) zs)) c.as_slice.ensures ∙ ap least (sym (flat_map_map (left_misuses s) c.in-Concat.parts))) ∙ ap least (sym r)
