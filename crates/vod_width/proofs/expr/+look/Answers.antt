-- What each kind of expression gives, from what its parts give.
use Rattle.std.proofs.Common.{◌≡◌, ◌∙◌, ◌++◌, ◌∷◌, [], List, max, map, take, slice_get, sym, ap, subst, arith}
use Rattle.std.specs.Option.{option_copied}
use Rattle.vod_tree.specs.declared.expr.Expr.{Expr}
use Rattle.vod_tree.specs.declared.expr.ExprKind.TheOpen.{ExprKind-F}
use Rattle.vod_tree.specs.declared.expr.ExprKind.TheVariants.{rolls-Number, rolls-Name, rolls-Index, rolls-Range, rolls-Call, rolls-Paren, rolls-Concat, rolls-Replicate, rolls-Unary, rolls-Binary, rolls-Conditional}
use Rattle.vod_design.specs.declared.statement.Size.{Size}
use Rattle.vod_width.specs.Names.{declared}
use Rattle.vod_operand.specs.Operands.{Looked, first}
use Rattle.vod_width.specs.Sizes.{sized_arguments, look_index, look_range, look_call, look_concat, look}
use Rattle.vod_operand.specs.Operators.{look_unary, look_binary, look_conditional}
use Rattle.vod_width.specs.View.{SeesKind, SeesParts, TreesAre, faults_of, inputs_of}
use Rattle.vod_width.specs.Calls.{called_of, width_of}
use Rattle.vod_operand.specs.FoundLaws.{ifok}
use Rattle.vod_width.proofs.Concats.{parts_more, trees_last, sized_more, call_sees}
use Rattle.vod_width.proofs.Arms.{look_sees, arm, kind_sees, literal_sees, named_sees, saw, saw_part, seen, seen_parts, both_inner, looks_more, looks_count}
use Rattle.vod_width.proofs.expr.+look.Goals as goal

pub look_expr-returns : goal.look_expr-returns
look_expr-returns t c = look_sees c.args.decls.now c.args.e.now c.in_ok-x.x c.at_place.result c.at_place.ensures c.in_ok-x.ensures

pub look_kind-returns-in-Number : goal.look_kind-returns-in-Number
look_kind-returns-in-Number t c =
    let n = c.in-Number.n in
    arm c.args.decls.now c.args.e.now (ExprKind-F.Number n) c.literal.result (c.in-Number.is ∙ sym (rolls-Number n)) (literal_sees c.literal.result n c.literal.ensures)

pub look_kind-returns-in-Name : goal.look_kind-returns-in-Name
look_kind-returns-in-Name t c =
    let decls = c.args.decls.now in
    let ident = c.in-Name.ident in
    arm decls c.args.e.now (ExprKind-F.Name ident) c.name.result (c.in-Name.is ∙ sym (rolls-Name ident)) (named_sees c.name.result c.args.e.now.place (declared decls ident.name) c.name.ensures)

pub look_kind-returns-in-Index : goal.look_kind-returns-in-Index
look_kind-returns-in-Index t c = ifok c.look_index.result c.look_index.ensures (λ v h.
    let decls = c.args.decls.now in
    let ident = c.in-Index.ident in
    let i = c.in-Index.i in
    let P : Expr → Type 0 = λ z. SeesKind v (look_index c.args.e.now.place (declared decls ident.name) (look decls z)) in
    arm decls c.args.e.now (ExprKind-F.Index ident i) v (c.in-Index.is ∙ sym (rolls-Index ident i)) (subst P c.get.ensures h))

pub look_index-returns : goal.look_index-returns
look_index-returns t c = ifok c.index.result c.index.ensures (λ v h.
    let decls = c.args.decls.now in
    let i = look decls c.args.i.now in
    kind_sees v (look_index c.args.place (declared decls c.args.ident.now.name) i) (h i (saw decls c.in_ok-i.i c.args.i.now c.in_ok-i.ensures)))

pub look_kind-returns-in_ok-msb-in-Range : goal.look_kind-returns-in_ok-msb-in-Range
look_kind-returns-in_ok-msb-in-Range t c = ifok c.range.result c.range.ensures (λ v h.
    let decls = c.args.decls.now in
    let ident = c.in-Range.ident in
    let a = c.in-Range.a in
    let b = c.in-Range.b in
    arm decls c.args.e.now (ExprKind-F.Range ident a b) v (c.in-Range.is ∙ sym (rolls-Range ident a b))
    (kind_sees v (look_range c.args.e.now.place (declared decls ident.name) (look decls a) (look decls b)) (h (look decls a) (look decls b)
    (seen decls c.look_expr-first.result c.in_ok-msb-in-Range.msb c.get-in-Range.result.now a c.look_expr-first.ensures c.in_ok-msb-in-Range.ensures.0 c.get-in-Range.ensures)
    (seen decls c.look_expr-last.result c.in_ok-msb-in-Range.lsb c.get-in-Range-2.result.now b c.look_expr-last.ensures c.in_ok-msb-in-Range.ensures.1 c.get-in-Range-2.ensures))))

pub look_kind-returns-in_ok-trees-in-Call : goal.look_kind-returns-in_ok-trees-in-Call
look_kind-returns-in_ok-trees-in-Call t c =
    let decls = c.args.decls.now in
    let place = c.args.e.now.place in
    let ident = c.in-Call.ident in
    let trees = c.in_ok-trees-in-Call.trees in
    let d = declared decls ident.name in
    let found : option_copied c.get-callee.result ≡ d = c.get-callee.ensures ∙ ap (declared decls) c.as_slice.ensures in
    let P : List Size → Type 0 = λ is. TreesAre trees (first (faults_of (map (look decls) c.as_slice-in-Call.result.now))) (sized_arguments is (map (look decls) c.as_slice-in-Call.result.now)) in
    let Q : List Expr → Type 0 = λ es. TreesAre trees (first (faults_of (map (look decls) es))) (sized_arguments (inputs_of d) (map (look decls) es)) in
    arm decls c.args.e.now (ExprKind-F.Call ident c.in-Call.arguments) c.call.result (c.in-Call.is ∙ sym (rolls-Call ident c.in-Call.arguments))
    (kind_sees c.call.result (look_call place d (map (look decls) c.in-Call.arguments)) (call_sees c.call.result place d trees (map (look decls) c.in-Call.arguments) (c.call.ensures ∙ ap (λ z. called_of place z trees) found)
    (subst Q c.as_slice-in-Call.ensures (subst P (c.inputs_of.ensures ∙ ap inputs_of found) c.in_ok-trees-in-Call.ensures))))

pub look_kind-returns-in-Paren : goal.look_kind-returns-in-Paren
look_kind-returns-in-Paren t c = ifok c.look_expr.result c.look_expr.ensures (λ v h.
    let decls = c.args.decls.now in
    let a = c.in-Paren.a in
    arm decls c.args.e.now (ExprKind-F.Paren a) v (c.in-Paren.is ∙ sym (rolls-Paren a)) (kind_sees v (look decls a) (saw_part decls v c.get-in-Paren.result.now a c.get-in-Paren.ensures h).sees))

pub look_kind-returns-in_ok-look_parts-in-Concat : goal.look_kind-returns-in_ok-look_parts-in-Concat
look_kind-returns-in_ok-look_parts-in-Concat t c =
    let decls = c.args.decls.now in
    let xs = c.in-Concat.parts in
    let P : List Expr → Type 0 = λ es. SeesParts c.in_ok-look_parts-in-Concat.field-0 (map (look decls) es) in
    arm decls c.args.e.now (ExprKind-F.Concat xs) c.concat.result (c.in-Concat.is ∙ sym (rolls-Concat xs))
    (kind_sees c.concat.result (look_concat (map (look decls) xs)) (c.concat.ensures (map (look decls) xs) (subst P c.as_slice-in-Concat.ensures c.in_ok-look_parts-in-Concat.ensures)))

pub look_kind-returns-in_ok-count-in-Replicate : goal.look_kind-returns-in_ok-count-in-Replicate
look_kind-returns-in_ok-count-in-Replicate t c = ifok c.replicate.result c.replicate.ensures (λ v h.
    let decls = c.args.decls.now in
    let n = c.in-Replicate.count in
    let xs = c.in-Replicate.parts in
    let both = c.in_ok-count-in-Replicate.ensures in
    arm decls c.args.e.now (ExprKind-F.Replicate n xs) v (c.in-Replicate.is ∙ sym (rolls-Replicate n xs))
    (h (look decls n) (map (look decls) xs)
    (seen decls c.look_expr-times.result c.in_ok-count-in-Replicate.count c.get-in-Replicate.result.now n c.look_expr-times.ensures both.0 c.get-in-Replicate.ensures)
    (seen_parts decls c.look_parts-concat.result c.in_ok-count-in-Replicate.parts c.as_slice-in-Replicate.result.now xs c.look_parts-concat.ensures both.1 c.as_slice-in-Replicate.ensures)))

pub look_kind-returns-in_ok-look_expr-in-Unary : goal.look_kind-returns-in_ok-look_expr-in-Unary
look_kind-returns-in_ok-look_expr-in-Unary t c = ifok c.unary.result c.unary.ensures (λ v h.
    let decls = c.args.decls.now in
    let op = c.in-Unary.op in
    let a = c.in-Unary.a in
    arm decls c.args.e.now (ExprKind-F.Unary op a) v (c.in-Unary.is ∙ sym (rolls-Unary op a))
    (kind_sees v (look_unary op (look decls a)) (h (look decls a) (saw_part decls c.in_ok-look_expr-in-Unary.field-0 c.get-in-Unary.result.now a c.get-in-Unary.ensures c.in_ok-look_expr-in-Unary.ensures))))

pub look_kind-returns-in_ok-left-in-Binary : goal.look_kind-returns-in_ok-left-in-Binary
look_kind-returns-in_ok-left-in-Binary t c = ifok c.binary.result c.binary.ensures (λ v h.
    let decls = c.args.decls.now in
    let op = c.in-Binary.op in
    let a = c.in-Binary.a in
    let b = c.in-Binary.b in
    let both = c.in_ok-left-in-Binary.ensures in
    arm decls c.args.e.now (ExprKind-F.Binary op a b) v (c.in-Binary.is ∙ sym (rolls-Binary op a b))
    (kind_sees v (look_binary op (look decls a) (look decls b)) (h (look decls a) (look decls b)
    (seen decls c.look_expr-left.result c.in_ok-left-in-Binary.left c.get-in-Binary.result.now a c.look_expr-left.ensures both.0 c.get-in-Binary.ensures)
    (seen decls c.look_expr-right.result c.in_ok-left-in-Binary.right c.get-in-Binary-2.result.now b c.look_expr-right.ensures both.1 c.get-in-Binary-2.ensures))))

pub look_kind-returns-in_ok-test-in-Conditional : goal.look_kind-returns-in_ok-test-in-Conditional
look_kind-returns-in_ok-test-in-Conditional t c = ifok c.conditional.result c.conditional.ensures (λ v h.
    let decls = c.args.decls.now in
    let test = c.in-Conditional.test in
    let a = c.in-Conditional.a in
    let b = c.in-Conditional.b in
    let outer = c.in_ok-test-in-Conditional.ensures in
    let branches = both_inner c.look_expr-taken.result c.look_expr-other.result c.both_ok-in-Conditional.result c.in_ok-test-in-Conditional.taken c.in_ok-test-in-Conditional.other c.both_ok-in-Conditional.ensures outer.1 in
    arm decls c.args.e.now (ExprKind-F.Conditional test a b) v (c.in-Conditional.is ∙ sym (rolls-Conditional test a b))
    (kind_sees v (look_conditional (look decls test) (look decls a) (look decls b)) (h (look decls test) (look decls a) (look decls b)
    (seen decls c.look_expr-tested.result c.in_ok-test-in-Conditional.test c.get-in-Conditional.result.now test c.look_expr-tested.ensures outer.0 c.get-in-Conditional.ensures)
    (seen decls c.look_expr-taken.result c.in_ok-test-in-Conditional.taken c.get-in-Conditional-2.result.now a c.look_expr-taken.ensures branches.0 c.get-in-Conditional-2.ensures)
    (seen decls c.look_expr-other.result c.in_ok-test-in-Conditional.other c.get-in-Conditional-3.result.now b c.look_expr-other.ensures branches.1 c.get-in-Conditional-3.ensures))))

pub look_parts-loop-e-preserved : goal.look_parts-loop-e-preserved
look_parts-loop-e-preserved t c =
    let decls = c.args.decls.now in
    let es = c.args.exprs.now in
    let i = c.loop-e.e-index in
    let e = c.e-item.result in
    let s = saw decls c.in_ok-x.x e c.in_ok-x.ensures in
    let more = c.in_ok-parts.ensures in
    let P : List Looked → Type 0 = λ ys. SeesParts c.in_ok-parts.parts ys in
    subst P (looks_more decls es i e c.e-item.is (omega arith))
    (parts_more c.loop-e.parts c.in_ok-parts.parts c.in_ok-x-2.x (map (look decls) (take i es)) (look decls e) c.loop-e.invariant (c.in_ok-x-2.ensures (look decls e) s.sees s.refits s.narrow) more.0 more.1 more.2 more.3)

pub look_arguments-loop-i-preserved : goal.look_arguments-loop-i-preserved
look_arguments-loop-i-preserved t c =
    let decls = c.args.decls.now in
    let inputs = c.args.inputs.now in
    let es = c.args.exprs.now in
    let i = c.loop-i.i in
    let e = c.index-exprs-i.result in
    let y = look decls e in
    let xs = map (look decls) (take i es) in
    let s = saw decls c.in_ok-x.x e c.in_ok-x.ensures in
    let P : List Looked → Type 0 = λ ys. TreesAre c.in_ok-trees.trees (first (faults_of ys)) (sized_arguments inputs ys) in
    let here : TreesAre c.in_ok-trees.trees (first (faults_of (xs ++ y ∷ []))) (sized_arguments inputs (xs ++ y ∷ [])) =
    rw c.in_ok-trees.ensures (trees_last c.loop-i.trees c.in_ok-x-2.x.tree xs y (sized_arguments inputs xs) (sized_arguments inputs (xs ++ y ∷ [])) (y.sized (max (width_of (slice_get inputs i)) y.width) y.signed)
    c.loop-i.invariant (c.in_ok-x-2.ensures y s).tree (sized_more inputs xs y i (looks_count decls es i (omega arith)))) in
    subst P (looks_more decls es i e c.index-exprs-i.is (omega arith)) here
