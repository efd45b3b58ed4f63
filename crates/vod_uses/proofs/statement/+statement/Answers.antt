use Rattle.std.proofs.Common.{◌+◌, ◌++◌, List, ℕ, map, drop, flat_map, sym, ◌∙◌, ap, arith}
use Rattle.std.specs.Option.{option_map}
use Rattle.vod_places.specs.Places.{sooner, least}
use Rattle.vod_tree.specs.declared.statement.StatementKind.TheOpen.{StatementKind-F}
use Rattle.vod_tree.specs.declared.statement.StatementKind.TheVariants.{rolls-Nonblocking, rolls-Blocking, rolls-If, rolls-Case, rolls-Block, rolls-Empty}
use Rattle.vod_uses.specs.Visible.{seen}
use Rattle.vod_uses.specs.Uses.{misuses, left_misuses}
use Rattle.vod_uses.specs.Statements.{label_misuses, else_misuses, statement_misuses, item_case_misuses}
use Rattle.vod_uses.proofs.Layers.{statement_misuses_at, if_misuses_at, case_misuses_at, in_case, flat_map_map, flat_map_alike}
use Rattle.vod_uses.proofs.Least.{two, each_step}
use Rattle.vod_uses.proofs.statement.+statement.Goals as goal

pub first_block_misuse-loop-statement-preserved : goal.first_block_misuse-loop-statement-preserved
first_block_misuse-loop-statement-preserved t c =
    let v = seen c.args.scope.now in
    let xs = c.args.statements.now in
    let i = c.loop-statement.statement-index in
    ap (λ o. sooner o (least (flat_map (statement_misuses v) (drop (i + 1) xs)))) c.sooner_of-first.ensures
    ∙ each_step (statement_misuses v) xs i c.statement-item.result c.loop-statement.first c.first_statement_misuse.result (least (flat_map (statement_misuses v) xs)) (omega arith) c.statement-item.is c.first_statement_misuse.ensures c.loop-statement.invariant

pub first_case_misuse-loop-item-preserved : goal.first_case_misuse-loop-item-preserved
first_case_misuse-loop-item-preserved t c =
    let v = seen c.args.scope.now in
    let xs = c.args.items.now in
    let i = c.loop-item.item-index in
    ap (λ o. sooner o (least (flat_map (item_case_misuses v) (drop (i + 1) xs)))) c.sooner_of-first.ensures
    ∙ each_step (item_case_misuses v) xs i c.item-item.result c.loop-item.first c.sooner_of-inside.result (least (flat_map (item_case_misuses v) xs)) (omega arith) c.item-item.is
    (c.sooner_of-inside.ensures ∙ two c.first_label_misuse-label.result c.first_statement_misuse.result (label_misuses v c.item-item.result.label) (statement_misuses v c.item-item.result.body) c.first_label_misuse-label.ensures c.first_statement_misuse.ensures)
    c.loop-item.invariant

pub first_statement_misuse-returns-in-Nonblocking : goal.first_statement_misuse-returns-in-Nonblocking
first_statement_misuse-returns-in-Nonblocking t c =
    let v = seen c.args.scope.now in
    let r = statement_misuses_at v c.args.statement.now (StatementKind-F.Nonblocking c.in-Nonblocking.left c.in-Nonblocking.value) (c.in-Nonblocking.is ∙ sym (rolls-Nonblocking c.in-Nonblocking.left c.in-Nonblocking.value)) in
    c.first_written_misuse.ensures ∙ ap (λ l. least (left_misuses v l ++ misuses v c.in-Nonblocking.value)) c.get.ensures ∙ ap least (sym r)

pub first_statement_misuse-returns-in-Blocking : goal.first_statement_misuse-returns-in-Blocking
first_statement_misuse-returns-in-Blocking t c =
    let v = seen c.args.scope.now in
    let r = statement_misuses_at v c.args.statement.now (StatementKind-F.Blocking c.in-Blocking.left c.in-Blocking.value) (c.in-Blocking.is ∙ sym (rolls-Blocking c.in-Blocking.left c.in-Blocking.value)) in
    c.first_written_misuse-in-Blocking.ensures ∙ ap (λ l. least (left_misuses v l ++ misuses v c.in-Blocking.value)) c.get-in-Blocking.ensures ∙ ap least (sym r)

pub first_statement_misuse-returns-in-If : goal.first_statement_misuse-returns-in-If
first_statement_misuse-returns-in-If t c =
    let v = seen c.args.scope.now in
    let r = if_misuses_at v c.args.statement.now c.in-If.test c.in-If.yes c.in-If.no (c.in-If.is ∙ sym (rolls-If c.in-If.test c.in-If.yes c.in-If.no)) in
    let no = else_misuses (option_map (statement_misuses v) c.in-If.no) in
    c.sooner_of.ensures
    ∙ two c.first_misuse.result c.sooner_of-branches.result (misuses v c.in-If.test) (statement_misuses v c.in-If.yes ++ no) c.first_misuse.ensures
    (c.sooner_of-branches.ensures ∙ two c.first_statement_misuse.result c.first_else_misuse.result (statement_misuses v c.in-If.yes) no (c.first_statement_misuse.ensures ∙ ap (λ s. least (statement_misuses v s)) c.get-in-If.ensures) c.first_else_misuse.ensures)
    ∙ ap least (sym r)

pub first_statement_misuse-returns-in-Case : goal.first_statement_misuse-returns-in-Case
first_statement_misuse-returns-in-Case t c =
    let v = seen c.args.scope.now in
    let r = statement_misuses_at v c.args.statement.now (StatementKind-F.Case c.in-Case.value c.in-Case.items) (c.in-Case.is ∙ sym (rolls-Case c.in-Case.value c.in-Case.items)) in
    let inside = flat_map_map (in_case v) c.in-Case.items ∙ flat_map_alike (in_case v) (item_case_misuses v) (case_misuses_at v) c.in-Case.items in
    c.sooner_of-in-Case.ensures
    ∙ two c.first_misuse-in-Case.result c.first_case_misuse-inside.result (misuses v c.in-Case.value) (flat_map (λ (ps : List ℕ). ps) (map (in_case v) c.in-Case.items)) c.first_misuse-in-Case.ensures
    (c.first_case_misuse-inside.ensures ∙ ap (λ xs. least (flat_map (item_case_misuses v) xs)) c.as_slice.ensures ∙ ap least (sym inside))
    ∙ ap least (sym r)

pub first_statement_misuse-returns-in-Block : goal.first_statement_misuse-returns-in-Block
first_statement_misuse-returns-in-Block t c =
    let v = seen c.args.scope.now in
    let r = statement_misuses_at v c.args.statement.now (StatementKind-F.Block c.in-Block.field-0 c.in-Block.statements) (c.in-Block.is ∙ sym (rolls-Block c.in-Block.field-0 c.in-Block.statements)) in
    c.first_block_misuse.ensures ∙ ap (λ xs. least (flat_map (statement_misuses v) xs)) c.as_slice-in-Block.ensures ∙ ap least (sym (flat_map_map (statement_misuses v) c.in-Block.statements)) ∙ ap least (sym r)

pub first_statement_misuse-returns-in-Empty : goal.first_statement_misuse-returns-in-Empty
first_statement_misuse-returns-in-Empty t c =
    let v = seen c.args.scope.now in
    let r = statement_misuses_at v c.args.statement.now StatementKind-F.Empty (c.in-Empty.is ∙ sym rolls-Empty) in
    ap least (sym r)
