-- What an operator makes of its operands (IEEE 1364-2005, 5.4.1 and 5.5.1).
use Rattle.std.specs.Prelude.{ℕ, min, max, nat_lt, false, ◌&&◌, if◌then◌else◌, ◌++◌}
use Rattle.vod_tree.specs.declared.expr.BinaryOp.{BinaryOp}
use Rattle.vod_tree.specs.declared.expr.UnaryOp.{UnaryOp}
use Rattle.vod_tree.specs.declared.expr.BinaryOp.TheVariants as tree
use Rattle.vod_tree.specs.declared.expr.UnaryOp.TheVariants as sign
use Rattle.vod_design.specs.declared.sized.SizedExpr.{SizedExpr}
use Rattle.vod_design.specs.declared.sized.SizedKind.{SizedKind}
use Rattle.vod_design.specs.declared.sized.BinaryOp.TheVariants as binary
use Rattle.vod_design.specs.declared.sized.ComparisonOp.TheVariants as comparison
use Rattle.vod_design.specs.declared.sized.LogicalOp.TheVariants as logical
use Rattle.vod_design.specs.declared.sized.ReductionOp.TheVariants as reduction
use Rattle.vod_design.specs.declared.sized.ShiftOp.TheVariants as shift
use Rattle.vod_design.specs.declared.sized.UnaryOp.TheVariants as unary
use Rattle.vod_design.specs.declared.sized.SizedKind.TheVariants as kind
use Rattle.vod_operand.specs.Operands.{Looked, node, own, looked}

-- one bit, from an operand by itself
abbrev pub one_bit : (SizedExpr → SizedKind) → Looked → Looked
one_bit k a = looked 1 false a.constant a.faults (λ w s. node w s (k (own a)))

-- an operator whose operand takes its size and sign
abbrev pub like_operand : (SizedExpr → SizedKind) → Looked → Looked
like_operand k a = looked a.width a.signed a.constant a.faults (λ w s. node w s (k (a.sized w s)))

abbrev pub look_unary : UnaryOp → Looked → Looked
look_unary sign.Minus a = like_operand (kind.Unary unary.Minus) a
look_unary sign.Not a = like_operand (kind.Unary unary.Not) a
look_unary sign.LogicalNot a = one_bit kind.LogicalNot a
look_unary sign.And a = one_bit (kind.Reduction reduction.And) a
look_unary sign.Nand a = one_bit (kind.Reduction reduction.Nand) a
look_unary sign.Or a = one_bit (kind.Reduction reduction.Or) a
look_unary sign.Nor a = one_bit (kind.Reduction reduction.Nor) a
look_unary sign.Xor a = one_bit (kind.Reduction reduction.Xor) a
look_unary sign.Xnor a = one_bit (kind.Reduction reduction.Xnor) a
look_unary sign.XorNot a = one_bit (kind.Reduction reduction.Xnor) a

-- the larger of two sizes. A part in which a rule fails may have no size, which is 0 here; then there is none
abbrev pub larger : ℕ → ℕ → ℕ
larger a b = if nat_lt 0 (min a b) then max a b else 0

-- an operator that has the larger size of its operands, and is signed where both are; they take its size and sign
abbrev pub like_both : (SizedExpr → SizedExpr → SizedKind) → Looked → Looked → Looked
like_both k a b = looked (larger a.width b.width) (a.signed && b.signed) (a.constant && b.constant) (a.faults ++ b.faults) (λ w s. node w s (k (a.sized w s) (b.sized w s)))

-- a shift has the size and sign of its left operand; the amount is self-determined
abbrev pub like_left : (SizedExpr → SizedExpr → SizedKind) → Looked → Looked → Looked
like_left k a b = looked a.width a.signed (a.constant && b.constant) (a.faults ++ b.faults) (λ w s. node w s (k (a.sized w s) (own b)))

-- a comparison has one bit; its operands take the larger of their sizes, and are signed where both are
abbrev pub compare : (SizedExpr → SizedExpr → SizedKind) → Looked → Looked → Looked
compare k a b =
    let width = larger a.width b.width in
    let signed = a.signed && b.signed in
    looked 1 false (a.constant && b.constant) (a.faults ++ b.faults) (λ w s. node w s (k (a.sized width signed) (b.sized width signed)))

-- a logical operator has one bit; its operands are self-determined
abbrev pub truths : (SizedExpr → SizedExpr → SizedKind) → Looked → Looked → Looked
truths k a b = looked 1 false (a.constant && b.constant) (a.faults ++ b.faults) (λ w s. node w s (k (own a) (own b)))

abbrev pub look_binary : BinaryOp → Looked → Looked → Looked
look_binary tree.Mul a b = like_both (kind.Binary binary.Mul) a b
look_binary tree.Add a b = like_both (kind.Binary binary.Add) a b
look_binary tree.Sub a b = like_both (kind.Binary binary.Sub) a b
look_binary tree.And a b = like_both (kind.Binary binary.And) a b
look_binary tree.Xor a b = like_both (kind.Binary binary.Xor) a b
look_binary tree.Xnor a b = like_both (kind.Binary binary.Xnor) a b
look_binary tree.XorNot a b = like_both (kind.Binary binary.Xnor) a b
look_binary tree.Or a b = like_both (kind.Binary binary.Or) a b
look_binary tree.ShiftLeft a b = like_left (kind.Shift shift.Left) a b
look_binary tree.ShiftRight a b = like_left (kind.Shift shift.Right) a b
look_binary tree.ArithmeticLeft a b = like_left (kind.Shift shift.Left) a b
look_binary tree.ArithmeticRight a b = like_left (kind.Shift shift.ArithmeticRight) a b
look_binary tree.Less a b = compare (kind.Comparison comparison.Less) a b
look_binary tree.LessEqual a b = compare (kind.Comparison comparison.LessEqual) a b
look_binary tree.Greater a b = compare (kind.Comparison comparison.Greater) a b
look_binary tree.GreaterEqual a b = compare (kind.Comparison comparison.GreaterEqual) a b
look_binary tree.Equal a b = compare (kind.Comparison comparison.Equal) a b
look_binary tree.NotEqual a b = compare (kind.Comparison comparison.NotEqual) a b
look_binary tree.CaseEqual a b = compare (kind.Comparison comparison.CaseEqual) a b
look_binary tree.CaseNotEqual a b = compare (kind.Comparison comparison.CaseNotEqual) a b
look_binary tree.LogicalAnd a b = truths (kind.Logical logical.And) a b
look_binary tree.LogicalOr a b = truths (kind.Logical logical.Or) a b

-- `?:` has the larger size of its branches, and is signed where both are; the test is self-determined (5.1.13)
abbrev pub look_conditional : Looked → Looked → Looked → Looked
look_conditional t a b =
    looked (larger a.width b.width) (a.signed && b.signed) (t.constant && a.constant && b.constant) (t.faults ++ a.faults ++ b.faults)
    (λ w s. node w s (kind.Conditional (own t) (a.sized w s) (b.sized w s)))
