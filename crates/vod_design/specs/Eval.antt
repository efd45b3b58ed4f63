-- The value of a sized expression (IEEE 1364-2005, 5.1, 5.4 and 5.5): each operand is taken at the size and sign that it is
-- evaluated at, and then the operator's table applies.
use Rattle.std.specs.Prelude.{ℕ, zero, suc, Bool, true, false, not, ◌&&◌, ◌||◌, if◌then◌else◌, max, List, [], ◌∷◌, ◌++◌, length, map, flat_map}
use Rattle.std.specs.Cmp.Lexicographic.{pointwise}
use Rattle.vod_bits.specs.Bit.{Bit, B0, B1, BX, BZ, is_0, is_1, bit_if, not_bit, and_bit, or_bit, xor_bit}
use Rattle.vod_bits.specs.Value.{zip_with, fold_bits}
use Rattle.vod_four.specs.Four.{sum_bits, difference_bits, product_bits, negative_bits, less_bit, less_signed_bit, equal_bit, truth_bit, shift_left_by, shift_right_by, shift_signed_by, choose_bits}
use Rattle.vod_design.specs.declared.sized.UnaryOp.{UnaryOp}
use Rattle.vod_design.specs.declared.sized.UnaryOp.TheVariants as unary
use Rattle.vod_design.specs.declared.sized.BinaryOp.{BinaryOp}
use Rattle.vod_design.specs.declared.sized.BinaryOp.TheVariants as binary
use Rattle.vod_design.specs.declared.sized.ComparisonOp.{ComparisonOp}
use Rattle.vod_design.specs.declared.sized.ComparisonOp.TheVariants as comparison
use Rattle.vod_design.specs.declared.sized.LogicalOp.{LogicalOp}
use Rattle.vod_design.specs.declared.sized.LogicalOp.TheVariants as logical
use Rattle.vod_design.specs.declared.sized.ReductionOp.{ReductionOp}
use Rattle.vod_design.specs.declared.sized.ReductionOp.TheVariants as reduction
use Rattle.vod_design.specs.declared.sized.ShiftOp.{ShiftOp}
use Rattle.vod_design.specs.declared.sized.ShiftOp.TheVariants as shift
use Rattle.vod_design.specs.declared.sized.GateOp.{GateOp}
use Rattle.vod_design.specs.declared.sized.GateOp.TheVariants as gate
use Rattle.vod_design.specs.declared.sized.SizedExpr.{SizedExpr}
use Rattle.vod_design.specs.declared.sized.SizedKind.TheOpen.{SizedKind-F, SizedExpr-F}
use Rattle.vod_design.specs.declared.sized.SizedKind.TheFolds.{fold-SizedExpr}
use Rattle.vod_design.specs.Values.{Values, Frame, Operand, bounded, at_size, select_bits, index_place, named_bits, bit_at_place, word_or_x, word_at}

-- the value that a call of a function by its number gives
abbrev pub Calls : Type 0
Calls = ℕ → List Operand → List Bit

-- `-` and `~` (5.1.5, 5.1.10)
abbrev pub unary_bits : UnaryOp → List Bit → List Bit
unary_bits unary.Minus a = negative_bits a
unary_bits unary.Not a = map not_bit a

-- the operators on two values of the operator's size (5.1.5, 5.1.10)
abbrev pub binary_bits : BinaryOp → List Bit → List Bit → List Bit
binary_bits binary.Add a b = sum_bits a b
binary_bits binary.Sub a b = difference_bits a b
binary_bits binary.Mul a b = product_bits a b
binary_bits binary.And a b = zip_with and_bit a b
binary_bits binary.Or a b = zip_with or_bit a b
binary_bits binary.Xor a b = zip_with xor_bit a b
binary_bits binary.Xnor a b = map not_bit (zip_with xor_bit a b)

-- `<` (5.1.7)
abbrev pub less : Bool → List Bit → List Bit → Bit
less signed a b = if signed then less_signed_bit a b else less_bit a b

-- whether two bits are the same, x and z included
abbrev pub is_x : Bit → Bool
is_x B0 = false
is_x B1 = false
is_x BX = true
is_x BZ = false

abbrev pub same_bit : Bit → Bit → Bool
same_bit B0 b = is_0 b
same_bit B1 b = is_1 b
same_bit BX b = is_x b
same_bit BZ b = not (is_0 b || is_1 b || is_x b)

-- `===` (5.1.8)
unfoldable pub identical_bit : List Bit → List Bit → Bit
identical_bit a b = bit_if (pointwise same_bit a b)

-- the comparisons of two values of one size (5.1.7, 5.1.8)
abbrev pub comparison_bit : ComparisonOp → Bool → List Bit → List Bit → Bit
comparison_bit comparison.Less signed a b = less signed a b
comparison_bit comparison.LessEqual signed a b = not_bit (less signed b a)
comparison_bit comparison.Greater signed a b = less signed b a
comparison_bit comparison.GreaterEqual signed a b = not_bit (less signed a b)
comparison_bit comparison.Equal signed a b = equal_bit a b
comparison_bit comparison.NotEqual signed a b = not_bit (equal_bit a b)
comparison_bit comparison.CaseEqual signed a b = identical_bit a b
comparison_bit comparison.CaseNotEqual signed a b = not_bit (identical_bit a b)

-- two operands are compared at the larger of their sizes, as signed ones only where both are (5.4.1, 5.5.1)
unfoldable pub compared : ComparisonOp → Operand → Operand → Bit
compared op a b =
    let width = max (length a.bits) (length b.bits) in
    let signed = a.signed && b.signed in
    comparison_bit op signed (at_size width signed a.bits) (at_size width signed b.bits)

-- `&&` and `||` (5.1.9)
abbrev pub logical_bit : LogicalOp → Bit → Bit → Bit
logical_bit logical.And a b = and_bit a b
logical_bit logical.Or a b = or_bit a b

-- the reductions (5.1.11)
abbrev pub reduction_bit : ReductionOp → List Bit → Bit
reduction_bit reduction.And a = fold_bits and_bit B1 a
reduction_bit reduction.Nand a = not_bit (fold_bits and_bit B1 a)
reduction_bit reduction.Or a = fold_bits or_bit B0 a
reduction_bit reduction.Nor a = not_bit (fold_bits or_bit B0 a)
reduction_bit reduction.Xor a = fold_bits xor_bit B0 a
reduction_bit reduction.Xnor a = not_bit (fold_bits xor_bit B0 a)

-- the shifts, by an amount that is unsigned whatever its operand is (5.1.12)
abbrev pub shift_bits : ShiftOp → Bool → List Bit → List Bit → List Bit
shift_bits shift.Left signed amount a = shift_left_by amount a
shift_bits shift.Right signed amount a = shift_right_by amount a
shift_bits shift.ArithmeticRight signed amount a = if signed then shift_signed_by amount a else shift_right_by amount a

-- a buffer: its input, x where that is z (7.3)
abbrev pub buf_bit : Bit → Bit
buf_bit B0 = B0
buf_bit B1 = B1
buf_bit BX = BX
buf_bit BZ = BX

-- a table folded over the inputs of a gate from the left: that of no inputs is `start` (7.2)
unfoldable pub fold_inputs : (Bit → Bit → Bit) → Bit → List Bit → Bit
fold_inputs table start [] = start
fold_inputs table start (input ∷ more) = fold_inputs table (table start input) more

-- of the inputs so far and one more, the latter
abbrev pub latest : Bit → Bit → Bit
latest earlier input = input

-- the input of a buffer or an inverter: the last terminal, a bit that isn't there where there is none (7.3)
abbrev pub last_input : Bit → List Bit → Bit
last_input fill inputs = fold_inputs latest fill inputs

-- the gates (7.2, 7.3)
abbrev pub gate_bit : Bit → GateOp → List Bit → Bit
gate_bit fill gate.And inputs = fold_inputs and_bit B1 inputs
gate_bit fill gate.Nand inputs = not_bit (fold_inputs and_bit B1 inputs)
gate_bit fill gate.Or inputs = fold_inputs or_bit B0 inputs
gate_bit fill gate.Nor inputs = not_bit (fold_inputs or_bit B0 inputs)
gate_bit fill gate.Xor inputs = fold_inputs xor_bit B0 inputs
gate_bit fill gate.Xnor inputs = not_bit (fold_inputs xor_bit B0 inputs)
gate_bit fill gate.Buf inputs = buf_bit (last_input fill inputs)
gate_bit fill gate.Not inputs = not_bit (last_input fill inputs)

-- bits, so many times one behind the other (5.1.14)
unfoldable pub repeated : ℕ → List Bit → List Bit
repeated zero bits = []
repeated (suc n) bits = repeated n bits ++ bits

-- the value of a kind of expression at a size and sign, with the operands' values in their places
abbrev pub kind_bits : Bit → Calls → Values → Frame → SizedKind-F (ℕ → Bool → List Bit) Operand → ℕ → Bool → List Bit
kind_bits fill calls values frame (SizedKind-F.Number bits) width signed = bits
kind_bits fill calls values frame (SizedKind-F.Name name) width signed = named_bits fill values frame name
kind_bits fill calls values frame (SizedKind-F.Select name low count) width signed = select_bits fill low (bounded count) (named_bits fill values frame name)
kind_bits fill calls values frame (SizedKind-F.Index name least index) width signed = bit_at_place fill (named_bits fill values frame name) (index_place least index.bits)
kind_bits fill calls values frame (SizedKind-F.Word memory place) width signed = word_or_x fill (bounded memory.width) (values.word memory.number place)
kind_bits fill calls values frame (SizedKind-F.WordIndex memory least index) width signed = word_or_x fill (bounded memory.width) (word_at values memory.number (index_place least index.bits))
kind_bits fill calls values frame (SizedKind-F.Unary op a) width signed = unary_bits op (at_size width signed a.bits)
kind_bits fill calls values frame (SizedKind-F.Binary op a b) width signed = binary_bits op (at_size width signed a.bits) (at_size width signed b.bits)
kind_bits fill calls values frame (SizedKind-F.Comparison op a b) width signed = compared op a b ∷ []
kind_bits fill calls values frame (SizedKind-F.LogicalNot a) width signed = not_bit (truth_bit a.bits) ∷ []
kind_bits fill calls values frame (SizedKind-F.Logical op a b) width signed = logical_bit op (truth_bit a.bits) (truth_bit b.bits) ∷ []
kind_bits fill calls values frame (SizedKind-F.Reduction op a) width signed = reduction_bit op a.bits ∷ []
kind_bits fill calls values frame (SizedKind-F.Shift op a amount) width signed = shift_bits op signed amount.bits (at_size width signed a.bits)
kind_bits fill calls values frame (SizedKind-F.Conditional test a b) width signed = choose_bits (truth_bit test.bits) (at_size width signed a.bits) (at_size width signed b.bits)
kind_bits fill calls values frame (SizedKind-F.Concat parts) width signed = flat_map (λ part. part.bits) parts
kind_bits fill calls values frame (SizedKind-F.Replicate count a) width signed = repeated count a.bits
kind_bits fill calls values frame (SizedKind-F.Call n arguments) width signed = calls n arguments
kind_bits fill calls values frame (SizedKind-F.Gate op inputs) width signed = gate_bit fill op (flat_map (λ input. at_size 1 false input.bits) inputs) ∷ []

-- an expression's value at its size and sign
abbrev pub sized_operand : SizedExpr-F (ℕ → Bool → List Bit) Operand → Operand
sized_operand e = record { bits = at_size e.width e.signed (e.kind e.width e.signed); signed = e.signed }

unfoldable pub operand_of : Bit → Calls → Values → Frame → SizedExpr → Operand
operand_of fill calls values frame e = fold-SizedExpr (ℕ → Bool → List Bit) Operand (kind_bits fill calls values frame) sized_operand e

-- the value of an expression, where a call gives what `calls` says
abbrev pub bits_of_expr : Bit → Calls → Values → Frame → SizedExpr → List Bit
bits_of_expr fill calls values frame e = (operand_of fill calls values frame e).bits
