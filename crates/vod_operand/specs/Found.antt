-- What the code finds of an expression.
use Rattle.std.specs.Prelude.{◌≡◌, ℕ, ◌≤◌, min, nat_lt, Bool, false, if◌then◌else◌, not, ◌&&◌, List, Option, None, Some, Result, Ok, Err}
use Rattle.vod_bits.specs.Bit.{Bit, is_1}
use Rattle.vod_bits.specs.Value.{number_of, upper_bit, all_known}
use Rattle.vod_bits.specs.declared.TheConstants.{WIDTH}
use Rattle.vod_tree.specs.declared.expr.BinaryOp.{BinaryOp}
use Rattle.vod_tree.specs.declared.expr.UnaryOp.{UnaryOp}
use Rattle.vod_tree.specs.declared.expr.BinaryOp.TheVariants as by
use Rattle.vod_tree.specs.declared.expr.UnaryOp.TheVariants as sign
use Rattle.vod_design.specs.declared.sized.SizedKind.{SizedKind}
use Rattle.vod_design.specs.declared.sized.SizedExpr.{SizedExpr}
use Rattle.vod_design.specs.declared.sized.SizedKind.TheVariants as kind
use Rattle.vod_design.specs.declared.sized.BinaryOp.TheVariants as binary
use Rattle.vod_design.specs.declared.sized.ComparisonOp.TheVariants as comparison
use Rattle.vod_design.specs.declared.sized.LogicalOp.TheVariants as logical
use Rattle.vod_design.specs.declared.sized.ReductionOp.TheVariants as reduction
use Rattle.vod_design.specs.declared.sized.ShiftOp.TheVariants as shift
use Rattle.vod_design.specs.declared.sized.UnaryOp.TheVariants as unary
use Rattle.vod_operand.specs.declared.fault.Fault.{Fault}
use Rattle.vod_operand.specs.declared.fault.Fault.TheVariants.{Rule, Width}
use Rattle.vod_operand.specs.declared.tree.Pair.{Pair}
use Rattle.vod_operand.specs.declared.tree.Single.{Single}
use Rattle.vod_operand.specs.declared.operators.Row.{Row}
use Rattle.vod_operand.specs.Fits.{Fits}
use Rattle.vod_operand.specs.Operands.{Looked, node, standing, sooner, first}
use Rattle.vod_operand.specs.declared.tree.Looked as code
use Rattle.vod_operand.specs.declared.tree.Pair.TheVariants as pairs
use Rattle.vod_operand.specs.declared.tree.Single.TheVariants as singles
use Rattle.vod_operand.specs.declared.operators.Row.TheVariants as rows

abbrev pub both_of : Result SizedExpr Fault → Result SizedExpr Fault → Result (SizedExpr × SizedExpr) Fault
both_of (Ok a) (Ok b) = Ok (a, b)
both_of (Ok a) (Err g) = Err g
both_of (Err f) (Ok b) = Err f
both_of (Err f) (Err g) = Err (sooner f g)

abbrev pub beside_of : Result SizedExpr Fault → Result (Unit {0}) Fault → Result SizedExpr Fault
beside_of tree (Ok u) = tree
beside_of (Ok t) (Err f) = Err f
beside_of (Err g) (Err f) = Err (sooner g f)

abbrev pub looked_of : ℕ → ℕ → Bool → Bool → Result SizedExpr Fault → code.Looked
looked_of place width signed constant tree = record { place = place; width = width; signed = signed; constant = constant; tree = tree }

-- a tree at its place
abbrev pub standing_tree : ℕ → Result SizedExpr Fault → Result SizedExpr Fault
standing_tree place (Ok t) = Ok (standing place t)
standing_tree place (Err f) = Err f

abbrev pub at_place_of : ℕ → code.Looked → code.Looked
at_place_of place x = looked_of place x.width x.signed x.constant (beside_of (standing_tree place x.tree) (if nat_lt WIDTH x.width then Err (Width place) else Ok tt))

abbrev pub pair_kind_of : Pair → SizedExpr → SizedExpr → SizedKind
pair_kind_of (pairs.Binary op) a b = kind.Binary op a b
pair_kind_of (pairs.Comparison op) a b = kind.Comparison op a b
pair_kind_of (pairs.Logical op) a b = kind.Logical op a b
pair_kind_of (pairs.Shift op) a b = kind.Shift op a b

abbrev pub pair_tree_of : Pair → Result (SizedExpr × SizedExpr) Fault → Result SizedExpr Fault
pair_tree_of pair (Ok p) = Ok (node 0 false (pair_kind_of pair p.0 p.1))
pair_tree_of pair (Err f) = Err f

abbrev pub single_kind_of : Single → SizedExpr → SizedKind
single_kind_of (singles.Unary op) a = kind.Unary op a
single_kind_of singles.LogicalNot a = kind.LogicalNot a
single_kind_of (singles.Reduction op) a = kind.Reduction op a

abbrev pub single_tree_of : Single → Result SizedExpr Fault → Result SizedExpr Fault
single_tree_of single (Ok a) = Ok (node 0 false (single_kind_of single a))
single_tree_of single (Err f) = Err f

abbrev pub triple_tree_of : Result SizedExpr Fault → Result (SizedExpr × SizedExpr) Fault → Result SizedExpr Fault
triple_tree_of (Ok t) (Ok p) = Ok (node 0 false (kind.Conditional t p.0 p.1))
triple_tree_of (Ok t) (Err g) = Err g
triple_tree_of (Err f) (Ok p) = Err f
triple_tree_of (Err f) (Err g) = Err (sooner f g)

-- a tree at a size and sign, or the same fault
abbrev pub FitsTree : ℕ → Bool → Result SizedExpr Fault → Result SizedExpr Fault → Type 0
FitsTree w s (Ok t) (Ok r) = Fits w s t r
FitsTree w s (Ok t) (Err g) = ⊥
FitsTree w s (Err f) (Ok r) = ⊥
FitsTree w s (Err f) (Err g) = f ≡ g

-- a tree where there is no fault, and else the first fault
abbrev pub TreeIs : Result SizedExpr Fault → Option Fault → SizedExpr → Type 0
TreeIs (Ok t) f u = (f ≡ None) × (t ≡ u)
TreeIs (Err e) f u = f ≡ Some e

-- what the code finds is what the definition says, with the tree u
pub record SeesAs (c : code.Looked) (x : Looked) (u : SizedExpr) : Type 0 where
  pub place : c.place ≡ x.place
  pub width : c.width ≡ min x.width 65
  pub signed : c.signed ≡ x.signed
  pub constant : c.constant ≡ x.constant
  pub tree : TreeIs c.tree (first x.faults) u

-- the same with the tree whose size isn't known yet
abbrev pub Sees : code.Looked → Looked → Type 0
Sees c x = SeesAs c x (x.sized 0 false)

-- a tree that is given another size and sign is the tree at these
abbrev pub Refits : Looked → Type 0
Refits x = (w v : ℕ) (s t : Bool) (r : SizedExpr) → Fits w s (x.sized v t) r → r ≡ x.sized w s

-- what has no fault isn't too wide
abbrev pub IsNarrow : Looked → Type 0
IsNarrow x = first x.faults ≡ None → x.width ≤ WIDTH

pub record Saw (c : code.Looked) (x : Looked) : Type 0 where
  pub sees : Sees c x
  pub refits : Refits x
  pub narrow : IsNarrow x

-- the row of the table of sizes that an operator stands in
abbrev pub row_of : BinaryOp → Row
row_of by.Mul = rows.Whole (pairs.Binary binary.Mul)
row_of by.Add = rows.Whole (pairs.Binary binary.Add)
row_of by.Sub = rows.Whole (pairs.Binary binary.Sub)
row_of by.And = rows.Whole (pairs.Binary binary.And)
row_of by.Xor = rows.Whole (pairs.Binary binary.Xor)
row_of by.Xnor = rows.Whole (pairs.Binary binary.Xnor)
row_of by.XorNot = rows.Whole (pairs.Binary binary.Xnor)
row_of by.Or = rows.Whole (pairs.Binary binary.Or)
row_of by.ShiftLeft = rows.Left (pairs.Shift shift.Left)
row_of by.ArithmeticLeft = rows.Left (pairs.Shift shift.Left)
row_of by.ShiftRight = rows.Left (pairs.Shift shift.Right)
row_of by.ArithmeticRight = rows.Left (pairs.Shift shift.ArithmeticRight)
row_of by.Less = rows.Compared (pairs.Comparison comparison.Less)
row_of by.LessEqual = rows.Compared (pairs.Comparison comparison.LessEqual)
row_of by.Greater = rows.Compared (pairs.Comparison comparison.Greater)
row_of by.GreaterEqual = rows.Compared (pairs.Comparison comparison.GreaterEqual)
row_of by.Equal = rows.Compared (pairs.Comparison comparison.Equal)
row_of by.NotEqual = rows.Compared (pairs.Comparison comparison.NotEqual)
row_of by.CaseEqual = rows.Compared (pairs.Comparison comparison.CaseEqual)
row_of by.CaseNotEqual = rows.Compared (pairs.Comparison comparison.CaseNotEqual)
row_of by.LogicalAnd = rows.Truths (pairs.Logical logical.And)
row_of by.LogicalOr = rows.Truths (pairs.Logical logical.Or)

abbrev pub single_of : UnaryOp → Single
single_of sign.Minus = singles.Unary unary.Minus
single_of sign.Not = singles.Unary unary.Not
single_of sign.LogicalNot = singles.LogicalNot
single_of sign.And = singles.Reduction reduction.And
single_of sign.Nand = singles.Reduction reduction.Nand
single_of sign.Or = singles.Reduction reduction.Or
single_of sign.Nor = singles.Reduction reduction.Nor
single_of sign.Xor = singles.Reduction reduction.Xor
single_of sign.Xnor = singles.Reduction reduction.Xnor
single_of sign.XorNot = singles.Reduction reduction.Xnor

abbrev pub natural_of : Bool → Bool → List Bit → Option ℕ
natural_of constant signed bits = if constant && (all_known bits && not (signed && is_1 (upper_bit bits))) then Some (number_of bits) else None

-- the fault of a tree
abbrev pub fault_of : Result SizedExpr Fault → Option Fault
fault_of (Ok t) = None
fault_of (Err f) = Some f

abbrev pub fault_if : Bool → ℕ → Option Fault
fault_if test place = if test then Some (Rule place) else None

-- a tree of a kind, unless there is a fault
abbrev pub tree_unless : Option Fault → SizedKind → Result SizedExpr Fault
tree_unless None k = Ok (node 0 false k)
tree_unless (Some f) k = Err f

-- the first fault of an expression with a fault inside it that has to be constant
abbrev pub fault_beside : Fault → Bool → ℕ → Fault
fault_beside fault constant place = if constant then fault else sooner fault (Rule place)

-- the first fault of a part that has to be a number: inside it, that it isn't constant, or that it isn't one
abbrev pub part_fault_of : Bool → Bool → ℕ → Result SizedExpr Fault → Option Fault
part_fault_of constant found place (Ok t) = fault_if (not found) place
part_fault_of constant found place (Err f) = Some (fault_beside f constant place)
