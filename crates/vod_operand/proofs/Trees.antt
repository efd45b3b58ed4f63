-- Trees of operators, and their sizes.
use Rattle.std.proofs.Common.{◌≡◌, ℕ, ◌≤◌, min, max, nat_lt, Bool, true, false, ◌&&◌, cond, ◌++◌, Option, None, Some, Result, Ok, Err, refl, sym, ◌∙◌, ap, subst, append_assoc, arith}
use Rattle.std.proofs.lemmas.Bool.Decides.{nat_tests}
use Rattle.vod_tree.specs.declared.expr.BinaryOp.{BinaryOp}
use Rattle.vod_tree.specs.declared.expr.BinaryOp.TheVariants as by
use Rattle.vod_design.specs.declared.sized.SizedExpr.{SizedExpr}
use Rattle.vod_design.specs.declared.sized.SizedKind.TheVariants as kind
use Rattle.vod_operand.specs.declared.fault.Fault.{Fault}
use Rattle.vod_operand.specs.declared.tree.Pair.{Pair}
use Rattle.vod_operand.specs.declared.operators.Row.{Row}
use Rattle.vod_operand.specs.Operands.{Looked, looked, node, first, join}
use Rattle.vod_operand.specs.Operators.{larger, like_both, like_left, compare, truths, look_binary}
use Rattle.vod_operand.specs.Found.{row_of, both_of, looked_of, pair_kind_of, pair_tree_of, triple_tree_of, TreeIs, SeesAs, Sees}
use Rattle.vod_operand.specs.FaultLaws.{first_append, join_none}
use Rattle.vod_operand.specs.FoundLaws.{tree_moved}
use Rattle.vod_operand.specs.declared.tree.Looked as code
use Rattle.vod_operand.specs.declared.operators.Row.TheVariants as rows

pub pair_is : (pair : Pair) (a b : Result SizedExpr Fault) (f g : Option Fault) (u v : SizedExpr) → TreeIs a f u → TreeIs b g v
    → TreeIs (pair_tree_of pair (both_of a b)) (join f g) (node 0 false (pair_kind_of pair u v))
pair_is pair (Ok a) (Ok b) f g u v p q = (ap (λ x. join x g) p.0 ∙ q.0, ap (λ x. node 0 false (pair_kind_of pair x b)) p.1 ∙ ap (λ x. node 0 false (pair_kind_of pair u x)) q.1)
pair_is pair (Ok a) (Err e) f g u v p q = ap (λ x. join x g) p.0 ∙ q
pair_is pair (Err e) (Ok b) f g u v p q = ap (λ x. join x g) p ∙ ap (join (Some e)) q.0
pair_is pair (Err e) (Err d) f g u v p q = ap (λ x. join x g) p ∙ ap (join (Some e)) q

pub triple_is : (t a b : Result SizedExpr Fault) (e f g : Option Fault) (s u v : SizedExpr) → TreeIs t e s → TreeIs a f u → TreeIs b g v
    → TreeIs (triple_tree_of t (both_of a b)) (join e (join f g)) (node 0 false (kind.Conditional s u v))
triple_is (Ok t) (Ok a) (Ok b) e f g s u v o p q = (
  ap (λ x. join x (join f g)) o.0 ∙ ap (λ x. join x g) p.0 ∙ q.0,
  ap (λ x. node 0 false (kind.Conditional x a b)) o.1 ∙ ap (λ x. node 0 false (kind.Conditional s x b)) p.1 ∙ ap (λ x. node 0 false (kind.Conditional s u x)) q.1,
)
triple_is (Ok t) (Ok a) (Err d) e f g s u v o p q = ap (λ x. join x (join f g)) o.0 ∙ ap (λ x. join x g) p.0 ∙ q
triple_is (Ok t) (Err d) (Ok b) e f g s u v o p q = ap (λ x. join x (join f g)) o.0 ∙ ap (λ x. join x g) p ∙ ap (join (Some d)) q.0
triple_is (Ok t) (Err d) (Err c) e f g s u v o p q = ap (λ x. join x (join f g)) o.0 ∙ ap (λ x. join x g) p ∙ ap (join (Some d)) q
triple_is (Err d) (Ok a) (Ok b) e f g s u v o p q = ap (λ x. join x (join f g)) o ∙ ap (λ x. join (Some d) (join x g)) p.0 ∙ ap (join (Some d)) q.0
triple_is (Err d) (Ok a) (Err c) e f g s u v o p q = ap (λ x. join x (join f g)) o ∙ ap (λ x. join (Some d) (join x g)) p.0 ∙ ap (join (Some d)) q
triple_is (Err d) (Err c) (Ok b) e f g s u v o p q = ap (λ x. join x (join f g)) o ∙ ap (λ x. join (Some d) (join x g)) p ∙ ap (λ x. join (Some d) (join (Some c) x)) q.0
triple_is (Err d) (Err c) (Err b) e f g s u v o p q = ap (λ x. join x (join f g)) o ∙ ap (λ x. join (Some d) (join x g)) p ∙ ap (λ x. join (Some d) (join (Some c) x)) q

pub paired_sees : (pair : Pair) (ca cb c : code.Looked) (x y : Looked) (u v : SizedExpr) (width : ℕ) (signed : Bool) (W : ℕ) (S : Bool) (sized : ℕ → Bool → SizedExpr)
    → c ≡ looked_of 0 width signed (ca.constant && cb.constant) (pair_tree_of pair (both_of ca.tree cb.tree)) → SeesAs ca x u → SeesAs cb y v
    → width ≡ min W 65 → signed ≡ S → (first x.faults ≡ None → first y.faults ≡ None → node 0 false (pair_kind_of pair u v) ≡ sized 0 false)
    → Sees c (looked W S (x.constant && y.constant) (x.faults ++ y.faults) sized)
paired_sees pair ca cb c x y u v width signed W S sized e a b w s t =
    let P : code.Looked → Type 0 = λ d. Sees d (looked W S (x.constant && y.constant) (x.faults ++ y.faults) sized) in
    subst P (sym e) (record {
      place = refl;
      width = w;
      signed = s;
      constant = ap (λ k. k && cb.constant) a.constant ∙ ap (λ k. x.constant && k) b.constant;
      tree = tree_moved (pair_tree_of pair (both_of ca.tree cb.tree)) (join (first x.faults) (first y.faults)) (first (x.faults ++ y.faults)) (node 0 false (pair_kind_of pair u v)) (sized 0 false)
          (sym (first_append x.faults y.faults)) (λ h. let n = join_none (first x.faults) (first y.faults) h in t n.0 n.1) (pair_is pair ca.tree cb.tree (first x.faults) (first y.faults) u v a.tree b.tree);
    })

pub tripled_sees : (ct ca cb c : code.Looked) (z x y : Looked) (o u v : SizedExpr) (width : ℕ) (signed : Bool) (W : ℕ) (S : Bool) (sized : ℕ → Bool → SizedExpr)
    → c ≡ looked_of 0 width signed (ct.constant && ca.constant && cb.constant) (triple_tree_of ct.tree (both_of ca.tree cb.tree)) → SeesAs ct z o → SeesAs ca x u → SeesAs cb y v
    → width ≡ min W 65 → signed ≡ S → node 0 false (kind.Conditional o u v) ≡ sized 0 false
    → Sees c (looked W S (z.constant && x.constant && y.constant) (z.faults ++ x.faults ++ y.faults) sized)
tripled_sees ct ca cb c z x y o u v width signed W S sized e t a b w s q =
    let P : code.Looked → Type 0 = λ d. Sees d (looked W S (z.constant && x.constant && y.constant) (z.faults ++ x.faults ++ y.faults) sized) in
    let faults : join (first z.faults) (join (first x.faults) (first y.faults)) ≡ first (z.faults ++ x.faults ++ y.faults)
    = ap (join (first z.faults)) (sym (first_append x.faults y.faults)) ∙ sym (first_append z.faults (x.faults ++ y.faults)) ∙ ap first (sym (append_assoc z.faults x.faults y.faults)) in
    subst P (sym e) (record {
      place = refl;
      width = w;
      signed = s;
      constant = ap (λ k. k && ca.constant && cb.constant) t.constant ∙ ap (λ k. z.constant && k && cb.constant) a.constant ∙ ap (λ k. z.constant && x.constant && k) b.constant;
      tree = tree_moved (triple_tree_of ct.tree (both_of ca.tree cb.tree)) (join (first z.faults) (join (first x.faults) (first y.faults))) (first (z.faults ++ x.faults ++ y.faults)) (node 0 false (kind.Conditional o u v)) (sized 0 false)
          faults (λ _. q) (triple_is ct.tree ca.tree cb.tree (first z.faults) (first x.faults) (first y.faults) o u v t.tree a.tree b.tree);
    })

-- the larger of two widths, as far as it counts
larger_by : (a b x y : ℕ) (t u : Bool) → t ≡ nat_lt 0 (min a b) → u ≡ nat_lt 0 (min x y) → a ≡ min x 65 → b ≡ min y 65 → cond t (max a b) 0 ≡ min (cond u (max x y) 0) 65
larger_by a b x y true true t u p q = omega arith
larger_by a b x y true false t u p q = absurd (grind (arith, nat_tests))
larger_by a b x y false true t u p q = absurd (grind (arith, nat_tests))
larger_by a b x y false false t u p q = refl

pub larger_capped : (a b x y : ℕ) → a ≡ min x 65 → b ≡ min y 65 → larger a b ≡ min (larger x y) 65
larger_capped a b x y p q = larger_by a b x y (nat_lt 0 (min a b)) (nat_lt 0 (min x y)) refl refl p q

larger_at_most : (t : Bool) (x y : ℕ) → cond t (max x y) 0 ≤ max x y
larger_at_most true x y = omega arith
larger_at_most false x y = omega arith

pub larger_exact : (w x y : ℕ) → w ≡ min (larger x y) 65 → x ≤ 64 → y ≤ 64 → w ≡ larger x y
larger_exact w x y p a b = omega (arith, p, a, b, larger_at_most (nat_lt 0 (min x y)) x y)

pub both_signed : (a b x y : Bool) → a ≡ x → b ≡ y → (a && b) ≡ (x && y)
both_signed a b x y p q = ap (λ k. k && b) p ∙ ap (λ k. x && k) q

-- the rows of the table of sizes
abbrev pub look_row : Row → Looked → Looked → Looked
look_row (rows.Whole p) x y = like_both (pair_kind_of p) x y
look_row (rows.Left p) x y = like_left (pair_kind_of p) x y
look_row (rows.Compared p) x y = compare (pair_kind_of p) x y
look_row (rows.Truths p) x y = truths (pair_kind_of p) x y

pub rows_are : (op : BinaryOp) (x y : Looked) → look_row (row_of op) x y ≡ look_binary op x y
rows_are by.Mul x y = refl
rows_are by.Add x y = refl
rows_are by.Sub x y = refl
rows_are by.And x y = refl
rows_are by.Xor x y = refl
rows_are by.Xnor x y = refl
rows_are by.XorNot x y = refl
rows_are by.Or x y = refl
rows_are by.ShiftLeft x y = refl
rows_are by.ArithmeticLeft x y = refl
rows_are by.ShiftRight x y = refl
rows_are by.ArithmeticRight x y = refl
rows_are by.Less x y = refl
rows_are by.LessEqual x y = refl
rows_are by.Greater x y = refl
rows_are by.GreaterEqual x y = refl
rows_are by.Equal x y = refl
rows_are by.NotEqual x y = refl
rows_are by.CaseEqual x y = refl
rows_are by.CaseNotEqual x y = refl
rows_are by.LogicalAnd x y = refl
rows_are by.LogicalOr x y = refl
