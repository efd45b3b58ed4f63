-- Behind a whole expression no token goes on but an operator between operands, `?`, `[` and `(`.
use Rattle.std.proofs.Common.{◌≡◌, ℕ, zero, suc, ◌+◌, ◌-◌, ◌≤◌, List, [], ◌∷◌, ◌++◌, length, take, Option, None, Some, option_and_then, refl, ap, sym, subst, ◌∙◌, append_assoc, append-nil, length-append, codes, arith}
use Rattle.std.proofs.Math.Seq.{take-append_seam, take-append-add}
use Rattle.vod_token.specs.declared.TokenKind.{TokenKind}
use Rattle.vod_token.specs.declared.TokenKind.TheVariants as kinds
use Rattle.vod_tree.specs.declared.expr.Expr.{Expr}
use Rattle.vod_tree.specs.declared.expr.ExprKind.{ExprKind}
use Rattle.vod_tree.specs.declared.expr.ExprKind.TheVariants as tree_kind
use Rattle.vod_tree.specs.declared.expr.UnaryOp.{UnaryOp}
use Rattle.vod_tree.specs.declared.expr.BinaryOp.{BinaryOp}
use Rattle.vod_tree.specs.declared.ident.Ident.{Ident}
use Rattle.vod_tree.specs.declared.ident.Number.{Number}
use Rattle.vod_expr_machine.specs.declared.word.Mark.{Mark}
use Rattle.vod_expr_machine.specs.declared.word.Mark.TheVariants as mark
use Rattle.vod_expr_machine.specs.declared.machine.Frame.{Frame}
use Rattle.vod_expr_machine.specs.declared.machine.Head.{Head}
use Rattle.vod_expr_machine.specs.declared.machine.Head.TheVariants.{Wanted, Bare, Named, Whole, Outer}
use Rattle.vod_expr.specs.Answer.{EndsExpr, BeginsNone, IsRead}
use Rattle.vod_expr.specs.Grammar.{Lexeme, IsExpr, Begins}
use Rattle.vod_expr_machine.specs.Machine.{mark_text, mark_of, unary_of, binary_of, Machine, machine, reduce, at_close_paren, at_close_bracket, at_comma, at_colon, at_open_brace, at_close_brace, at_part, behind, followed, preceded, opened, named, on_mark, on_operator, on_operand, on_symbol, on_kind, step, run, tree, start}
use Rattle.vod_expr.proofs.Complete.{Knows, Holds, reads}
use Rattle.vod_expr.proofs.Longest.{run_onto}
use Rattle.vod_expr.proofs.Unique.{expr_runs, run_stops, unread_begins_none}
use Rattle.vod_expr.proofs.Words.{mark_found, unary_found, binary_found}

-- nothing is begun around the expression
abbrev Alone : List Frame → ℕ → ExprKind → Type 0
Alone fs q b = (reduce 0 fs q b).frames ≡ []

mark_stops : (m : Mark) → (mark_text m ≡ codes "?" → ⊥) → (fs : List Frame) (q : ℕ) (b : ExprKind) → Alone fs q b → behind m fs q b ≡ None
unfolding at_part
mark_stops mark.Question question fs q b e = absurd (question refl)
mark_stops mark.Colon question fs q b e = ap (λ v. at_colon v (tree (reduce 0 fs q b))) e
mark_stops mark.Comma question fs q b e = ap (λ v. at_comma v (tree (reduce 0 fs q b))) e
mark_stops mark.CloseParen question fs q b e = ap (λ v. at_close_paren v (tree (reduce 0 fs q b))) e
mark_stops mark.CloseBracket question fs q b e = ap (λ v. at_close_bracket v (tree (reduce 0 fs q b))) e
mark_stops mark.CloseBrace question fs q b e = ap (λ v. at_close_brace v (tree (reduce 0 fs q b))) e
mark_stops mark.OpenBrace question fs q b e = ap (λ v. at_open_brace v (tree (reduce 0 fs q b))) e
mark_stops mark.OpenParen question fs q b e = refl
mark_stops mark.OpenBracket question fs q b e = refl

named_stops : (m : Mark) → (mark_text m ≡ codes "?" → ⊥) → (mark_text m ≡ codes "[" → ⊥) → (mark_text m ≡ codes "(" → ⊥)
    → (fs : List Frame) (n : Ident) → Alone fs n.place (tree_kind.Name n) → named m fs n ≡ None
named_stops mark.OpenParen question bracket paren fs n e = absurd (paren refl)
named_stops mark.OpenBracket question bracket paren fs n e = absurd (bracket refl)
named_stops mark.Question question bracket paren fs n e = absurd (question refl)
named_stops mark.Colon question bracket paren fs n e = mark_stops mark.Colon question fs n.place (tree_kind.Name n) e
named_stops mark.Comma question bracket paren fs n e = mark_stops mark.Comma question fs n.place (tree_kind.Name n) e
named_stops mark.CloseParen question bracket paren fs n e = mark_stops mark.CloseParen question fs n.place (tree_kind.Name n) e
named_stops mark.CloseBracket question bracket paren fs n e = mark_stops mark.CloseBracket question fs n.place (tree_kind.Name n) e
named_stops mark.CloseBrace question bracket paren fs n e = mark_stops mark.CloseBrace question fs n.place (tree_kind.Name n) e
named_stops mark.OpenBrace question bracket paren fs n e = mark_stops mark.OpenBrace question fs n.place (tree_kind.Name n) e

-- of the same expression
moved : (fs : List Frame) (q p : ℕ) (b a : ExprKind) → q ≡ p → b ≡ a → Alone fs q b → Alone fs p a
moved fs q p b a e f alone = ap (λ v. (reduce 0 fs v a).frames) (sym e) ∙ ap (λ v. (reduce 0 fs q v).frames) (sym f) ∙ alone

on_mark_stops : (g : Head) (fs : List Frame) (q : ℕ) (b : ExprKind) → Holds g q b → Alone fs q b → (place : ℕ) (m : Mark)
    → (mark_text m ≡ codes "?" → ⊥) → (mark_text m ≡ codes "[" → ⊥) → (mark_text m ≡ codes "(" → ⊥) → on_mark g fs place m ≡ None
unfolding on_mark
on_mark_stops Wanted fs q b holds alone place m question bracket paren = absurd holds
on_mark_stops Bare fs q b holds alone place m question bracket paren = absurd holds
on_mark_stops (Named n) fs q b holds alone place m question bracket paren =
    named_stops m question bracket paren fs n (moved fs q n.place b (tree_kind.Name n) holds.0 holds.1 alone)
on_mark_stops (Whole p a) fs q b holds alone place m question bracket paren = mark_stops m question fs p a (moved fs q p b a holds.0 holds.1 alone)
on_mark_stops (Outer p a xs) fs q b holds alone place m question bracket paren = absurd holds

on_operator_stops : (g : Head) (fs : List Frame) (q : ℕ) (b : ExprKind) → Holds g q b → (place : ℕ) (text : List ℕ) → binary_of text ≡ None → on_operator g fs place text ≡ None
unfolding on_operator
on_operator_stops Wanted fs q b holds place text none = absurd holds
on_operator_stops Bare fs q b holds place text none = absurd holds
on_operator_stops (Named n) fs q b holds place text none = ap (followed fs n.place (tree_kind.Name n)) none
on_operator_stops (Whole p a) fs q b holds place text none = ap (followed fs p a) none
on_operator_stops (Outer p a xs) fs q b holds place text none = absurd holds

on_operand_stops : (g : Head) (fs : List Frame) (q : ℕ) (b : ExprKind) → Holds g q b → (h : Head) → on_operand g fs h ≡ None
unfolding on_operand
on_operand_stops Wanted fs q b holds h = absurd holds
on_operand_stops Bare fs q b holds h = absurd holds
on_operand_stops (Named n) fs q b holds h = refl
on_operand_stops (Whole p a) fs q b holds h = refl
on_operand_stops (Outer p a xs) fs q b holds h = absurd holds

no_binary : (t : Lexeme) → EndsExpr t → t.kind ≡ kinds.Symbol → (o : Option BinaryOp) → binary_of t.text ≡ o → o ≡ None
no_binary t ends kind None e = refl
no_binary t ends kind (Some op) e = absurd (ends.operator op (kind, binary_found t.text op e))

on_symbol_stops : (g : Head) (fs : List Frame) (q : ℕ) (b : ExprKind) → Holds g q b → Alone fs q b → (t : Lexeme) → EndsExpr t → t.kind ≡ kinds.Symbol
    → (o : Option Mark) → mark_of t.text ≡ o → on_symbol (machine g fs) t.place t.text o ≡ None
on_symbol_stops g fs q b holds alone t ends kind (Some m) e =
    let spelled = mark_found t.text m e in
    on_mark_stops g fs q b holds alone t.place m (λ h. ends.question (kind, spelled ∙ h)) (λ h. ends.bracket (kind, spelled ∙ h)) (λ h. ends.paren (kind, spelled ∙ h))
on_symbol_stops g fs q b holds alone t ends kind None e = on_operator_stops g fs q b holds t.place t.text (no_binary t ends kind (binary_of t.text) refl)

on_kind_stops : (value : Lexeme → Number) (g : Head) (fs : List Frame) (q : ℕ) (b : ExprKind) → Holds g q b → Alone fs q b → (t : Lexeme) → EndsExpr t
    → (k : TokenKind) → t.kind ≡ k → on_kind k value (machine g fs) t ≡ None
unfolding on_kind
on_kind_stops value g fs q b holds alone t ends kinds.Number kind = on_operand_stops g fs q b holds _
on_kind_stops value g fs q b holds alone t ends kinds.Name kind = on_operand_stops g fs q b holds _
on_kind_stops value g fs q b holds alone t ends kinds.Symbol kind = on_symbol_stops g fs q b holds alone t ends kind (mark_of t.text) refl
on_kind_stops value g fs q b holds alone t ends kinds.Reserved kind = refl
on_kind_stops value g fs q b holds alone t ends kinds.Directive kind = refl

-- so the state behind it doesn't go on, and a run is not read past it
pub stops_behind : (value : Lexeme → Number) → Knows value → (ts : List Lexeme) (x : Expr) → IsExpr 0 ts x → (t : Lexeme) → EndsExpr t → (u : Machine) → run value start ts ≡ Some u → step value u t ≡ None
stops_behind value knows ts x d t ends u h =
    let r = reads value knows 0 ts x d Wanted [] tt tt in
    let alone : Alone r.state.frames r.last_place r.last = ap (λ v. v.frames) (r.reduces 0 (omega arith)) in
    let states : Some u ≡ Some r.state = sym h ∙ ap (run value start) (sym (append-nil ts)) ∙ r.runs [] in
    let state : u ≡ r.state = cc in
    ap (λ v. step value v t) state ∙ on_kind_stops value r.state.head r.state.frames r.last_place r.last r.holds alone t ends t.kind refl

unread : (value : Lexeme → Number) → Knows value → (ts : List Lexeme) (t : Lexeme) (x : Expr) → IsExpr 0 ts x → EndsExpr t → run value start (ts ++ t ∷ []) ≡ None
unread value knows ts t x d ends =
    let r = expr_runs value knows ts x d in
    run_onto value start ts (t ∷ []) ∙ ap (option_and_then (λ u. run value u (t ∷ []))) r.runs
    ∙ ap (option_and_then (λ v. run value v [])) (stops_behind value knows ts x d t ends r.state r.runs)

pub read_before_by : (value : Lexeme → Number) → Knows value → (ts us : List Lexeme) (t : Lexeme) (x : Expr) → IsExpr 0 ts x → EndsExpr t → IsRead (ts ++ t ∷ us) (length ts) x
read_before_by value knows ts us t x d ends =
    let front : take (length ts) (ts ++ t ∷ us) ≡ ts = take-append_seam ts (t ∷ us) in
    let long : length (ts ++ t ∷ us) ≡ length ts + suc (length us) = length-append ts (t ∷ us) in
    record {
      longest = record {
        within = omega arith;
        begins = subst Begins (sym front) ([], x, subst (λ v. IsExpr 0 v x) (sym (append-nil ts)) d);
        longest = longest;
      };
      expr = subst (λ v. IsExpr 0 v x) (sym front) d;
    }
  where
    past : (k : ℕ) → Begins (take (length ts + suc k) (ts ++ t ∷ us)) → ⊥
    past k b =
        let all : take (length ts + suc k) (ts ++ t ∷ us) ≡ ts ++ t ∷ [] ++ take k us = take-append-add ts (t ∷ us) (suc k) ∙ sym (append_assoc ts (t ∷ []) (take k us)) in
        unread_begins_none value knows (take (length ts + suc k) (ts ++ t ∷ us))
        (ap (run value start) all ∙ run_stops value start (ts ++ t ∷ []) (take k us) (unread value knows ts t x d ends)) b

    by_rest : (m k : ℕ) → m ≡ length ts + k → Begins (take m (ts ++ t ∷ us)) → m ≤ length ts
    by_rest m zero e b = omega arith
    by_rest m (suc k) e b = absurd (past k (subst (λ v. Begins (take v (ts ++ t ∷ us))) e b))

    longest : (m : ℕ) → m ≤ length (ts ++ t ∷ us) → Begins (take m (ts ++ t ∷ us)) → m ≤ length ts
    longest m le b = by_order (m - length ts) refl
      where
        by_order : (k : ℕ) → m - length ts ≡ k → m ≤ length ts
        by_order zero e = omega arith
        by_order (suc k) e = by_rest m (suc k) (omega arith) b

-- with some tokens no expression begins
opened_none : (m : Mark) → (mark_text m ≡ codes "(" → ⊥) → (mark_text m ≡ codes "{" → ⊥) → (p : ℕ) → opened m [] p ≡ None
opened_none mark.OpenParen paren brace p = absurd (paren refl)
opened_none mark.OpenBrace paren brace p = absurd (brace refl)
opened_none _ paren brace p = refl

preceded_none : (t : Lexeme) → BeginsNone t → t.kind ≡ kinds.Symbol → (o : Option UnaryOp) → unary_of t.text ≡ o → preceded [] t.place o ≡ None
preceded_none t none kind None e = refl
preceded_none t none kind (Some op) e = absurd (none.operator op (kind, unary_found t.text op e))

symbol_none : (t : Lexeme) → BeginsNone t → t.kind ≡ kinds.Symbol → (o : Option Mark) → mark_of t.text ≡ o → on_symbol start t.place t.text o ≡ None
unfolding on_mark on_operator
symbol_none t none kind (Some m) e =
    let spelled = mark_found t.text m e in
    opened_none m (λ h. none.paren (kind, spelled ∙ h)) (λ h. none.brace (kind, spelled ∙ h)) t.place
symbol_none t none kind None e = preceded_none t none kind (unary_of t.text) refl

kind_none : (value : Lexeme → Number) (t : Lexeme) → BeginsNone t → (k : TokenKind) → t.kind ≡ k → on_kind k value start t ≡ None
unfolding on_kind
kind_none value t none kinds.Number kind = absurd (none.number kind)
kind_none value t none kinds.Name kind = absurd (none.name kind)
kind_none value t none kinds.Symbol kind = symbol_none t none kind (mark_of t.text) refl
kind_none value t none kinds.Reserved kind = refl
kind_none value t none kinds.Directive kind = refl

pub step_none : (value : Lexeme → Number) (t : Lexeme) → BeginsNone t → step value start t ≡ None
step_none value t none = kind_none value t none t.kind refl

pub none_begins_by : (value : Lexeme → Number) → Knows value → (t : Lexeme) (ts : List Lexeme) → BeginsNone t → Begins (t ∷ ts) → ⊥
none_begins_by value knows t ts none b = unread_begins_none value knows (t ∷ ts) (ap (option_and_then (λ u. run value u ts)) (step_none value t none)) b
