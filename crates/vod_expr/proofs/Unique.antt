-- A run of tokens is read to one tree, and a run that begins an expression is read.
use Rattle.std.proofs.Common.{◌≡◌, ℕ, List, [], ◌∷◌, ◌++◌, Option, None, Some, option_and_then, refl, ap, sym, ◌∙◌, append-nil, arith}
use Rattle.vod_tree.specs.declared.expr.Expr.{Expr}
use Rattle.vod_tree.specs.declared.expr.ExprKind.{ExprKind}
use Rattle.vod_tree.specs.declared.expr.ExprKind.TheVariants as tree_kind
use Rattle.vod_tree.specs.declared.ident.Number.{Number}
use Rattle.vod_expr_machine.specs.declared.machine.Frame.{Frame}
use Rattle.vod_expr_machine.specs.declared.machine.Head.{Head}
use Rattle.vod_expr_machine.specs.declared.machine.Head.TheVariants.{Wanted, Bare, Named, Whole, Outer}
use Rattle.vod_expr.specs.Grammar.{Lexeme, IsExpr}
use Rattle.vod_expr_machine.specs.Machine.{Machine, reduce, step, run, tree}
use Rattle.vod_expr.specs.Grammar.{Begins}
use Rattle.vod_expr_machine.specs.Machine.{alone, ended, start}
use Rattle.vod_expr.proofs.Complete.{Knows, Holds, reads}

ended_is : (h : Head) (fs : List Frame) (q : ℕ) (b : ExprKind) → Holds h q b → ended h fs ≡ alone (reduce 0 fs q b).frames (tree (reduce 0 fs q b))
unfolding ended
ended_is (Named n) fs q b holds = ap (λ v. alone (reduce 0 fs v (tree_kind.Name n)).frames (tree (reduce 0 fs v (tree_kind.Name n)))) (sym holds.0) ∙ ap (λ v. alone (reduce 0 fs q v).frames (tree (reduce 0 fs q v))) (sym holds.1)
ended_is (Whole p a) fs q b holds = ap (λ v. alone (reduce 0 fs v a).frames (tree (reduce 0 fs v a))) (sym holds.0) ∙ ap (λ v. alone (reduce 0 fs q v).frames (tree (reduce 0 fs q v))) (sym holds.1)
ended_is Wanted fs q b holds = absurd holds
ended_is Bare fs q b holds = absurd holds
ended_is (Outer p a xs) fs q b holds = absurd holds

-- a run is read to a tree
pub record IsReadTo (value : Lexeme → Number) (ts : List Lexeme) (x : Expr) : Type 0 where
  pub state : Machine
  pub runs : run value start ts ≡ Some state
  pub ends : ended (state.head) (state.frames) ≡ Some x

pub expr_runs : (value : Lexeme → Number) → Knows value → (ts : List Lexeme) (x : Expr) → IsExpr 0 ts x → IsReadTo value ts x
expr_runs value knows ts x d =
    let r = reads value knows 0 ts x d Wanted [] tt tt in
    record {
      state = r.state;
      runs = ap (run value start) (sym (append-nil ts)) ∙ r.runs [];
      ends = ended_is r.state.head r.state.frames r.last_place r.last r.holds ∙ ap (λ v. alone v.frames (tree v)) (r.reduces 0 (omega arith)) ∙ ap Some (sym r.is);
    }

pub one_tree_by : (value : Lexeme → Number) → Knows value → (ts : List Lexeme) (a b : Expr) → IsExpr 0 ts a → IsExpr 0 ts b → a ≡ b
one_tree_by value knows ts a b d d' =
    let x = expr_runs value knows ts a d in
    let y = expr_runs value knows ts b d' in
    let states : Some x.state ≡ Some y.state = sym x.runs ∙ y.runs in
    let state : x.state ≡ y.state = cc in
    let trees : Some a ≡ Some b = sym x.ends ∙ ap (λ v. ended v.head v.frames) state ∙ y.ends in
    cc

-- a run whose front isn't read isn't read
pub run_stops : (value : Lexeme → Number) (s : Machine) (ts us : List Lexeme) → run value s ts ≡ None → run value s (ts ++ us) ≡ None
run_stops value s [] us h = cc
run_stops value s (t ∷ ts) us h = by_step (step value s t) h (λ u. run_stops value u ts us)
  where
    by_step : (o : Option Machine) → option_and_then (λ u. run value u ts) o ≡ None → ((u : Machine) → run value u ts ≡ None → run value u (ts ++ us) ≡ None) → option_and_then (λ u. run value u (ts ++ us)) o ≡ None
    by_step None h goes = refl
    by_step (Some u) h goes = goes u h

-- a run that isn't read begins no expression
pub unread_begins_none : (value : Lexeme → Number) → Knows value → (ts : List Lexeme) → run value start ts ≡ None → Begins ts → ⊥
unread_begins_none value knows ts h begins =
    let r = expr_runs value knows (ts ++ begins.0) begins.1 begins.2 in
    let clash : None ≡ Some r.state = sym (run_stops value start ts begins.0 h) ∙ r.runs in
    cc
