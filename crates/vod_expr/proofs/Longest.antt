-- How far the machine reads is the longest front that begins an expression.
use Rattle.std.proofs.Common.{◌≡◌, ℕ, zero, suc, ◌+◌, ◌-◌, ◌≤◌, List, [], ◌∷◌, ◌++◌, length, take, drop, Option, None, Some, option_and_then, refl, ap, sym, ◌∙◌, arith}
use Rattle.std.proofs.lemmas.Grind.{common_steps}
use Rattle.std.specs.List.{AllByRecursion}
use Rattle.vod_tree.specs.declared.expr.Expr.{Expr}
use Rattle.vod_tree.specs.declared.ident.Number.{Number}
use Rattle.vod_expr.specs.Grammar.{Lexeme, IsExpr, Begins, IsLongest}
use Rattle.vod_expr_machine.specs.Machine.{Machine, step, run, start, ended}
use Rattle.vod_expr.specs.Reading.{Stops}
use Rattle.vod_expr.proofs.Complete.{Knows}
use Rattle.vod_expr.proofs.Unique.{expr_runs, unread_begins_none}
use Rattle.vod_expr.proofs.States.{Sure, run_stands, start_stands, ended_stands}
use Rattle.vod_expr.proofs.Viable.{stands_begins}

pub run_onto : (value : Lexeme → Number) (s : Machine) (ts us : List Lexeme) → run value s (ts ++ us) ≡ option_and_then (λ u. run value u us) (run value s ts)
run_onto value s [] us = refl
run_onto value s (t ∷ ts) us = by_step (step value s t) (λ u. run_onto value u ts us)
  where
    by_step : (o : Option Machine) → ((u : Machine) → run value u (ts ++ us) ≡ option_and_then (λ v. run value v us) (run value u ts))
        → option_and_then (λ u. run value u (ts ++ us)) o ≡ option_and_then (λ v. run value v us) (option_and_then (λ u. run value u ts) o)
    by_step None goes = refl
    by_step (Some u) goes = goes u

stopped : (value : Lexeme → Number) (s : Machine) (ts : List Lexeme) (k : ℕ) → Stops value s ts → suc k ≤ length ts → run value s (take (suc k) ts) ≡ None
stopped value s [] k h le = absurd (omega arith)
stopped value s (t ∷ ts) k h le = ap (option_and_then (λ u. run value u (take k ts))) h

take_nil : (k : ℕ) → take {A = Lexeme} k [] ≡ []
take_nil zero = refl
take_nil (suc k) = refl

take_more : (n k : ℕ) (ts : List Lexeme) → take (n + k) ts ≡ take n ts ++ take k (drop n ts)
take_more zero k ts = ap (λ v. take v ts) (let e : 0 + k ≡ k = omega arith in e)
take_more (suc n) k [] = take_nil (suc n + k) ∙ sym (take_nil k)
take_more (suc n) k (t ∷ ts) =
    let e : suc n + k ≡ suc (n + k) = omega arith in
    ap (λ v. take v (t ∷ ts)) e ∙ ap (λ v. t ∷ v) (take_more n k ts)

pub read_longest : (value : Lexeme → Number) → Knows value → (ts : List Lexeme) (n : ℕ) → n ≤ length ts → AllByRecursion (Sure value) (take n ts) → (u : Machine) → run value start (take n ts) ≡ Some u → Stops value u (drop n ts) → IsLongest ts n
read_longest value knows ts n within sure u h stops =
    record { within = within; begins = stands_begins u.head u.frames (take n ts) (run_stands value start [] (take n ts) start_stands sure u h); longest = longest }
  where
    unread : (k : ℕ) → n + suc k ≤ length ts → run value start (take (n + suc k) ts) ≡ None
    unread k le =
        let left : suc k ≤ length (drop n ts) = grind (arith, common_steps) in
        ap (run value start) (take_more n (suc k) ts) ∙ run_onto value start (take n ts) (take (suc k) (drop n ts)) ∙ ap (option_and_then (λ v. run value v (take (suc k) (drop n ts)))) h
        ∙ stopped value u (drop n ts) k stops left

    by_rest : (m k : ℕ) → m ≡ n + k → m ≤ length ts → Begins (take m ts) → m ≤ n
    by_rest m zero e le b = omega arith
    by_rest m (suc k) e le b = absurd (unread_begins_none value knows (take m ts) (ap (λ v. run value start (take v ts)) e ∙ unread k (omega arith)) b)

    longest : (m : ℕ) → m ≤ length ts → Begins (take m ts) → m ≤ n
    longest m le b = by_order (m - n) refl
      where
        by_order : (k : ℕ) → m - n ≡ k → m ≤ n
        by_order zero e = omega arith
        by_order (suc k) e = by_rest m (suc k) (omega arith) le b

-- what is read to a tree is its expression; and what isn't is none
pub read_tree : (value : Lexeme → Number) (ts : List Lexeme) → AllByRecursion (Sure value) ts → (u : Machine) → run value start ts ≡ Some u → (x : Expr) → ended u.head u.frames ≡ Some x → IsExpr 0 ts x
read_tree value ts sure u h x e = ended_stands u.head u.frames ts x (run_stands value start [] ts start_stands sure u h) e

pub read_none : (value : Lexeme → Number) → Knows value → (ts : List Lexeme) (u : Machine) → run value start ts ≡ Some u → ended u.head u.frames ≡ None → (x : Expr) → IsExpr 0 ts x → ⊥
read_none value knows ts u h e x d =
    let r = expr_runs value knows ts x d in
    let states : Some u ≡ Some r.state = sym h ∙ r.runs in
    let state : u ≡ r.state = cc in
    let clash : None ≡ Some x = sym e ∙ ap (λ v. ended v.head v.frames) state ∙ r.ends in
    cc
