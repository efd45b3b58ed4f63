use Rattle.std.proofs.lemmas.List.{length-map}
use Rattle.std.proofs.Common.{ℕ, length, ◌+◌, ◌++◌, List, map, drop, flat_map, sym, ◌∙◌, ap, arith}
use Rattle.vod_places.specs.Places.{sooner, least}
use Rattle.vod_tree.specs.declared.expr.ExprKind.TheOpen.{ExprKind-F}
use Rattle.vod_tree.specs.declared.expr.ExprKind.TheVariants.{rolls-Number, rolls-Name, rolls-Index, rolls-Range, rolls-Call, rolls-Paren, rolls-Concat, rolls-Replicate, rolls-Unary, rolls-Binary, rolls-Conditional}
use Rattle.vod_uses.specs.Visible.{seen}
use Rattle.vod_uses.specs.Uses.{misused, uncallable, misuses}
use Rattle.vod_uses.specs.declared.scope.Usage.TheVariants.{Value, Indexed}
use Rattle.vod_uses.proofs.Layers.{misuses_at, flat_map_map}
use Rattle.vod_uses.proofs.Least.{two, each_step}
use Rattle.vod_uses.proofs.expr.+misuse.Goals as goal

pub first_misuse_of-loop-e-preserved : goal.first_misuse_of-loop-e-preserved
first_misuse_of-loop-e-preserved t c =
    let s = seen c.args.scope.now in
    let xs = c.args.exprs.now in
    let i = c.loop-e.e-index in
    ap (λ o. sooner o (least (flat_map (misuses s) (drop (i + 1) xs)))) c.sooner_of-first.ensures
    ∙ each_step (misuses s) xs i c.e-item.result c.loop-e.first c.first_misuse.result (least (flat_map (misuses s) xs)) (omega arith) c.e-item.is c.first_misuse.ensures c.loop-e.invariant

pub first_misuse-returns-in-Number : goal.first_misuse-returns-in-Number
first_misuse-returns-in-Number t c =
    let s = seen c.args.scope.now in
    let r = misuses_at s c.args.e.now (ExprKind-F.Number c.in-Number.field-0) (c.in-Number.is ∙ sym (rolls-Number c.in-Number.field-0)) in
    ap least (sym r)

pub first_misuse-returns-in-Name : goal.first_misuse-returns-in-Name
first_misuse-returns-in-Name t c =
    let s = seen c.args.scope.now in
    let r = misuses_at s c.args.e.now (ExprKind-F.Name c.in-Name.ident) (c.in-Name.is ∙ sym (rolls-Name c.in-Name.ident)) in
    c.misused.ensures ∙ ap least (sym r)

pub first_misuse-returns-in-Index : goal.first_misuse-returns-in-Index
first_misuse-returns-in-Index t c =
    let s = seen c.args.scope.now in
    let r = misuses_at s c.args.e.now (ExprKind-F.Index c.in-Index.ident c.in-Index.a) (c.in-Index.is ∙ sym (rolls-Index c.in-Index.ident c.in-Index.a)) in
    c.sooner_of.ensures ∙ two c.misused-in-Index.result c.first_misuse-index.result (misused s Indexed c.in-Index.ident) (misuses s c.in-Index.a) c.misused-in-Index.ensures (c.first_misuse-index.ensures ∙ ap (λ z. least (misuses s z)) c.get.ensures) ∙ ap least (sym r)

pub first_misuse-returns-in-Range : goal.first_misuse-returns-in-Range
first_misuse-returns-in-Range t c =
    let s = seen c.args.scope.now in
    let r = misuses_at s c.args.e.now (ExprKind-F.Range c.in-Range.ident c.in-Range.a c.in-Range.b) (c.in-Range.is ∙ sym (rolls-Range c.in-Range.ident c.in-Range.a c.in-Range.b)) in
    c.sooner_of-in-Range.ensures ∙ two c.misused-in-Range.result c.sooner_of-bounds.result (misused s Value c.in-Range.ident) (misuses s c.in-Range.a ++ misuses s c.in-Range.b) c.misused-in-Range.ensures (c.sooner_of-bounds.ensures ∙ two c.first_misuse.result c.first_misuse-in-Range.result (misuses s c.in-Range.a) (misuses s c.in-Range.b) (c.first_misuse.ensures ∙ ap (λ z. least (misuses s z)) c.get-in-Range.ensures) (c.first_misuse-in-Range.ensures ∙ ap (λ z. least (misuses s z)) c.get-in-Range-2.ensures)) ∙ ap least (sym r)

pub first_misuse-returns-in-Call : goal.first_misuse-returns-in-Call
first_misuse-returns-in-Call t c =
    let s = seen c.args.scope.now in
    let r = misuses_at s c.args.e.now (ExprKind-F.Call c.in-Call.ident c.in-Call.arguments) (c.in-Call.is ∙ sym (rolls-Call c.in-Call.ident c.in-Call.arguments)) in
    c.sooner_of-in-Call.ensures ∙ two c.uncallable.result c.first_misuse_of-inside.result (uncallable s c.in-Call.ident (length (map (misuses s) c.in-Call.arguments))) (flat_map (λ (ps : List ℕ). ps) (map (misuses s) c.in-Call.arguments)) (c.uncallable.ensures ∙ ap (λ n. least (uncallable s c.in-Call.ident n)) (ap length c.as_slice-in-Call.ensures ∙ sym (length-map c.in-Call.arguments (misuses s)))) (c.first_misuse_of-inside.ensures ∙ ap (λ zs. least (flat_map (misuses s) zs)) c.as_slice.ensures ∙ ap least (sym (flat_map_map (misuses s) c.in-Call.arguments))) ∙ ap least (sym r)

pub first_misuse-returns-in-Paren : goal.first_misuse-returns-in-Paren
first_misuse-returns-in-Paren t c =
    let s = seen c.args.scope.now in
    let r = misuses_at s c.args.e.now (ExprKind-F.Paren c.in-Paren.a) (c.in-Paren.is ∙ sym (rolls-Paren c.in-Paren.a)) in
    (c.first_misuse-in-Paren.ensures ∙ ap (λ z. least (misuses s z)) c.get-in-Paren.ensures) ∙ ap least (sym r)

pub first_misuse-returns-in-Unary : goal.first_misuse-returns-in-Unary
first_misuse-returns-in-Unary t c =
    let s = seen c.args.scope.now in
    let r = misuses_at s c.args.e.now (ExprKind-F.Unary c.in-Unary.field-0 c.in-Unary.a) (c.in-Unary.is ∙ sym (rolls-Unary c.in-Unary.field-0 c.in-Unary.a)) in
    (c.first_misuse-in-Unary.ensures ∙ ap (λ z. least (misuses s z)) c.get-in-Unary.ensures) ∙ ap least (sym r)

pub first_misuse-returns-in-Concat : goal.first_misuse-returns-in-Concat
first_misuse-returns-in-Concat t c =
    let s = seen c.args.scope.now in
    let r = misuses_at s c.args.e.now (ExprKind-F.Concat c.in-Concat.parts) (c.in-Concat.is ∙ sym (rolls-Concat c.in-Concat.parts)) in
    (c.first_misuse_of.ensures ∙ ap (λ zs. least (flat_map (misuses s) zs)) c.as_slice-in-Concat.ensures ∙ ap least (sym (flat_map_map (misuses s) c.in-Concat.parts))) ∙ ap least (sym r)

pub first_misuse-returns-in-Replicate : goal.first_misuse-returns-in-Replicate
first_misuse-returns-in-Replicate t c =
    let s = seen c.args.scope.now in
    let r = misuses_at s c.args.e.now (ExprKind-F.Replicate c.in-Replicate.count c.in-Replicate.parts) (c.in-Replicate.is ∙ sym (rolls-Replicate c.in-Replicate.count c.in-Replicate.parts)) in
    c.sooner_of-in-Replicate.ensures ∙ two c.first_misuse-in-Replicate.result c.first_misuse_of-inside-in-Replicate.result (misuses s c.in-Replicate.count) (flat_map (λ (ps : List ℕ). ps) (map (misuses s) c.in-Replicate.parts)) (c.first_misuse-in-Replicate.ensures ∙ ap (λ z. least (misuses s z)) c.get-in-Replicate.ensures) (c.first_misuse_of-inside-in-Replicate.ensures ∙ ap (λ zs. least (flat_map (misuses s) zs)) c.as_slice-in-Replicate.ensures ∙ ap least (sym (flat_map_map (misuses s) c.in-Replicate.parts))) ∙ ap least (sym r)

pub first_misuse-returns-in-Binary : goal.first_misuse-returns-in-Binary
first_misuse-returns-in-Binary t c =
    let s = seen c.args.scope.now in
    let r = misuses_at s c.args.e.now (ExprKind-F.Binary c.in-Binary.field-0 c.in-Binary.a c.in-Binary.b) (c.in-Binary.is ∙ sym (rolls-Binary c.in-Binary.field-0 c.in-Binary.a c.in-Binary.b)) in
    c.sooner_of-in-Binary.ensures ∙ two c.first_misuse-in-Binary.result c.first_misuse-in-Binary-2.result (misuses s c.in-Binary.a) (misuses s c.in-Binary.b) (c.first_misuse-in-Binary.ensures ∙ ap (λ z. least (misuses s z)) c.get-in-Binary.ensures) (c.first_misuse-in-Binary-2.ensures ∙ ap (λ z. least (misuses s z)) c.get-in-Binary-2.ensures) ∙ ap least (sym r)

pub first_misuse-returns-in-Conditional : goal.first_misuse-returns-in-Conditional
first_misuse-returns-in-Conditional t c =
    let s = seen c.args.scope.now in
    let r = misuses_at s c.args.e.now (ExprKind-F.Conditional c.in-Conditional.test c.in-Conditional.a c.in-Conditional.b) (c.in-Conditional.is ∙ sym (rolls-Conditional c.in-Conditional.test c.in-Conditional.a c.in-Conditional.b)) in
    c.sooner_of-in-Conditional.ensures ∙ two c.first_misuse-in-Conditional-3.result c.sooner_of-branches.result (misuses s c.in-Conditional.test) (misuses s c.in-Conditional.a ++ misuses s c.in-Conditional.b) (c.first_misuse-in-Conditional-3.ensures ∙ ap (λ z. least (misuses s z)) c.get-in-Conditional-3.ensures) (c.sooner_of-branches.ensures ∙ two c.first_misuse-in-Conditional.result c.first_misuse-in-Conditional-2.result (misuses s c.in-Conditional.a) (misuses s c.in-Conditional.b) (c.first_misuse-in-Conditional.ensures ∙ ap (λ z. least (misuses s z)) c.get-in-Conditional.ensures) (c.first_misuse-in-Conditional-2.ensures ∙ ap (λ z. least (misuses s z)) c.get-in-Conditional-2.ensures)) ∙ ap least (sym r)
