use Rattle.std.proofs.Common.{◌≡◌, ◌+◌, ◌++◌, drop, flat_map, IfOk, sym, ◌∙◌, ap, subst, arith}
use Rattle.vod_places.specs.Places.{sooner, least}
use Rattle.vod_tree.specs.declared.statement.ForLoop.{out-ForLoop}
use Rattle.vod_tree.specs.declared.statement.InitialKind.TheOpen.{InitialKind-F}
use Rattle.vod_tree.specs.declared.statement.InitialKind.TheVariants.{rolls-Assign, rolls-AssignIndex, rolls-For, rolls-Block}
use Rattle.vod_uses.specs.Visible.{seen, within, in_loop}
use Rattle.vod_uses.specs.Uses.{misuses}
use Rattle.vod_uses.specs.Statements.{unassignable, unassignable_at, loop_head_misuses, initial_misuses}
use Rattle.vod_uses.proofs.Layers.{initial_misuses_at, for_misuses_at, in_statement, flat_map_at}
use Rattle.vod_uses.proofs.Least.{two, each_step}
use Rattle.vod_uses.proofs.initial.+initial.Goals as goal

pub first_initial_misuse_of-loop-statement-preserved : goal.first_initial_misuse_of-loop-statement-preserved
first_initial_misuse_of-loop-statement-preserved t c =
    let v = seen c.args.scope.now in
    let xs = c.args.statements.now in
    let i = c.loop-statement.statement-index in
    ap (λ o. sooner o (least (flat_map (initial_misuses v) (drop (i + 1) xs)))) c.sooner_of-first.ensures
    ∙ each_step (initial_misuses v) xs i c.statement-item.result c.loop-statement.first c.in_ok-first_initial_misuse.field-0 (least (flat_map (initial_misuses v) xs)) (omega arith) c.statement-item.is c.in_ok-first_initial_misuse.ensures c.loop-statement.invariant

pub first_initial_misuse-returns-in-Assign : goal.first_initial_misuse-returns-in-Assign
first_initial_misuse-returns-in-Assign t c =
    let v = seen c.args.scope.now in
    let r = initial_misuses_at v c.args.statement.now (InitialKind-F.Assign c.in-Assign.ident c.in-Assign.value) (c.in-Assign.is ∙ sym (rolls-Assign c.in-Assign.ident c.in-Assign.value)) in
    c.sooner_of.ensures ∙ two c.unassignable.result c.first_misuse.result (unassignable v c.in-Assign.ident) (misuses v c.in-Assign.value) c.unassignable.ensures c.first_misuse.ensures ∙ ap least (sym r)

pub first_initial_misuse-returns-in-AssignIndex : goal.first_initial_misuse-returns-in-AssignIndex
first_initial_misuse-returns-in-AssignIndex t c =
    let v = seen c.args.scope.now in
    let i = c.in-AssignIndex.ident in
    let a = c.in-AssignIndex.index in
    let e = c.in-AssignIndex.value in
    let r = initial_misuses_at v c.args.statement.now (InitialKind-F.AssignIndex i a e) (c.in-AssignIndex.is ∙ sym (rolls-AssignIndex i a e)) in
    c.sooner_of-in-AssignIndex.ensures
    ∙ two c.unassignable_at.result c.sooner_of-inside.result (unassignable_at v i) (misuses v a ++ misuses v e) c.unassignable_at.ensures
    (c.sooner_of-inside.ensures ∙ two c.first_misuse-in-AssignIndex.result c.first_misuse-in-AssignIndex-2.result (misuses v a) (misuses v e) c.first_misuse-in-AssignIndex.ensures c.first_misuse-in-AssignIndex-2.ensures)
    ∙ ap least (sym r)

pub first_initial_misuse-returns-in-For : goal.first_initial_misuse-returns-in-For
first_initial_misuse-returns-in-For t c =
    let v = seen c.args.scope.now in
    let r = initial_misuses_at v c.args.statement.now (InitialKind-F.For c.in-For.it) (c.in-For.is ∙ sym (rolls-For c.in-For.it)) in
    subst (λ ps. IfOk c.first_loop_misuse.result (λ p. p ≡ least ps)) (sym (r ∙ for_misuses_at v c.in-For.it)) c.first_loop_misuse.ensures

pub first_initial_misuse-returns-in-Block : goal.first_initial_misuse-returns-in-Block
first_initial_misuse-returns-in-Block t c =
    let v = seen c.args.scope.now in
    let r = initial_misuses_at v c.args.statement.now (InitialKind-F.Block c.in-Block.field-0 c.in-Block.statements) (c.in-Block.is ∙ sym (rolls-Block c.in-Block.field-0 c.in-Block.statements)) in
    let inside = ap (flat_map (initial_misuses v)) c.as_slice.ensures ∙ sym (flat_map_at in_statement v c.in-Block.statements) ∙ sym r in
    subst (λ ps. IfOk c.first_initial_misuse_of.result (λ p. p ≡ least ps)) inside c.first_initial_misuse_of.ensures

pub first_loop_misuse-returns : goal.first_loop_misuse-returns
first_loop_misuse-returns t c =
    let v = seen c.args.scope.now in
    let f = c.args.it.now in
    let inside = in_loop v (out-ForLoop f).index in
    c.sooner_of.ensures
    ∙ two c.first_head_misuse-head.result c.in_ok-body.body (loop_head_misuses v f) (initial_misuses inside (out-ForLoop f).body) c.first_head_misuse-head.ensures
    (c.in_ok-body.ensures ∙ ap (λ w. least (initial_misuses w c.get.result.now)) (c.within.ensures ∙ ap (within v) c.in_ok-inner.ensures) ∙ ap (λ s. least (initial_misuses inside s)) c.get.ensures)
