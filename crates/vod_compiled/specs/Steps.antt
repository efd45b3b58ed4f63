-- What steps do to cells.
use Rattle.std.specs.Prelude.{ℕ, zero, suc, ◌+◌, false, List, [], ◌∷◌, ◌++◌, slice_set}
use Rattle.vod_bits.specs.Bit.{Bit, B0, B1, BX, BZ, not_bit}
use Rattle.vod_bits.specs.Value.{upper_bit}
use Rattle.vod_four.specs.Four.{truth_bit, choose_bits}
use Rattle.vod_design.specs.Values.{Values, Operand, bounded, at_size, value_at, select_bits, index_place, bit_at_place, word_or_x, word_at}
use Rattle.vod_design.specs.Eval.{unary_bits, binary_bits, compared, logical_bit, reduction_bit, shift_bits, repeated}
use Rattle.vod_eval.specs.Pieces.{lowest, gate_start, gate_table, gate_output}
use Rattle.vod_compiled.specs.declared.step.Source.{Source}
use Rattle.vod_compiled.specs.declared.step.Source.TheVariants.{Signal, Cell, Constant, Nothing}
use Rattle.vod_compiled.specs.declared.step.Input.{Input}
use Rattle.vod_compiled.specs.declared.step.Op.{Op}
use Rattle.vod_compiled.specs.declared.step.Op.TheVariants as op
use Rattle.vod_compiled.specs.declared.step.Step.{Step}

-- the values in the cells
abbrev pub Cells : Type 0
Cells = List (List Bit)

-- bits so many times one behind the other, cut to the lowest WIDTH bits: a 0 where there are none
abbrev pub replicated : ℕ → List Bit → List Bit
replicated zero bits = B0 ∷ []
replicated (suc n) bits = lowest (repeated (suc n) bits)

-- what steps work over: what a bit is that isn't there, and the values of signals and memory words
pub record World : Type 0 where
  pub fill : Bit
  pub values : Values

abbrev pub world : Bit → Values → World
world fill values = record { fill = fill; values = values }

abbrev pub source_bits : World → Cells → Source → List Bit
source_bits w cells (Signal n) = w.values.signal n
source_bits w cells (Cell n) = value_at w.fill cells n
source_bits w cells (Constant bits) = bits
source_bits w cells Nothing = w.fill ∷ []

-- an operand's bits at its own size and sign
abbrev pub input_bits : World → Cells → Input → List Bit
input_bits w cells i = at_size i.width i.signed (source_bits w cells i.source)

-- the operand
abbrev pub taken : World → Cells → Input → Operand
taken w cells i = record { bits = input_bits w cells i; signed = i.signed }

-- an operand's bits at the size and sign of a step
abbrev pub at_step : World → Cells → Step → Input → List Bit
at_step w cells s i = at_size s.width s.signed (input_bits w cells i)

-- the truth of an operand
abbrev pub truth_of : World → Cells → Input → Bit
truth_of w cells i = truth_bit (input_bits w cells i)

-- a conditional's second branch beside its first one, by the truth of the test
abbrev pub second_bits : World → Cells → Step → Input → Input → List Bit
second_bits w cells s test other = choose_bits (truth_of w cells test) (at_size s.width s.signed (value_at w.fill cells (s.to + 1))) (at_step w cells s other)

-- a value put into a cell
abbrev pub put : Cells → ℕ → List Bit → Cells
put cells n bits = slice_set cells n bits

-- by a truth: what is done where it is true, and else
abbrev pub where_true : {A : Type 0} → Bit → A → A → A
where_true B0 a b = b
where_true B1 a b = a
where_true BX a b = b
where_true BZ a b = b

abbrev pub where_false : {A : Type 0} → Bit → A → A → A
where_false B0 a b = a
where_false B1 a b = b
where_false BX a b = b
where_false BZ a b = b

-- what a step puts into its cell, where it puts its value there alone
abbrev pub op_bits : World → Cells → Step → Op → List Bit
op_bits w cells s (op.Copy a) = input_bits w cells a
op_bits w cells s (op.Select x low count) = select_bits w.fill low (bounded count) (source_bits w cells x)
op_bits w cells s (op.Index x least a) = bit_at_place w.fill (source_bits w cells x) (index_place least (input_bits w cells a))
op_bits w cells s (op.Word m place) = word_or_x w.fill (bounded m.width) (w.values.word m.number place)
op_bits w cells s (op.WordIndex m least a) = word_or_x w.fill (bounded m.width) (word_at w.values m.number (index_place least (input_bits w cells a)))
op_bits w cells s (op.Unary o a) = unary_bits o (at_step w cells s a)
op_bits w cells s (op.Binary o a b) = binary_bits o (at_step w cells s a) (at_step w cells s b)
op_bits w cells s (op.Comparison o a b) = compared o (taken w cells a) (taken w cells b) ∷ []
op_bits w cells s (op.LogicalNot a) = not_bit (truth_of w cells a) ∷ []
op_bits w cells s (op.Logical o a b) = logical_bit o (truth_of w cells a) (truth_of w cells b) ∷ []
op_bits w cells s (op.Reduction o a) = reduction_bit o (input_bits w cells a) ∷ []
op_bits w cells s (op.Shift o a amount) = shift_bits o s.signed (input_bits w cells amount) (at_step w cells s a)
op_bits w cells s (op.Join a) = lowest (value_at w.fill cells s.to ++ input_bits w cells a)
op_bits w cells s (op.Replicate count a) = replicated count (input_bits w cells a)
op_bits w cells s (op.GateStart o) = gate_start w.fill o ∷ []
op_bits w cells s (op.GateInput o a) = gate_table o (upper_bit (value_at w.fill cells s.to)) (upper_bit (at_size 1 false (input_bits w cells a))) ∷ []
op_bits w cells s (op.GateEnd o) = gate_output o (upper_bit (value_at w.fill cells s.to)) ∷ []
op_bits w cells s (op.Second t b) = second_bits w cells s t b
op_bits w cells s (op.Test t n) = w.fill ∷ []
op_bits w cells s (op.First t a n) = w.fill ∷ []

-- the cells after a step
abbrev pub after_op : World → Cells → Step → Op → Cells
after_op w cells s (op.Test t n) = cells
after_op w cells s (op.First t a n) = where_true (truth_of w cells t) (put cells s.to (at_step w cells s a)) (put cells (s.to + 1) (at_step w cells s a))
after_op w cells s o = put cells s.to (op_bits w cells s o)

abbrev pub after : World → Cells → Step → Cells
after w cells s = after_op w cells s s.op

-- how many steps are left out behind a step
abbrev pub left_out_op : World → Cells → Op → ℕ
left_out_op w cells (op.Test t n) = where_false (truth_of w cells t) n 0
left_out_op w cells (op.First t a n) = where_true (truth_of w cells t) n 0
left_out_op w cells _ = 0

abbrev pub left_out : World → Cells → Step → ℕ
left_out w cells s = left_out_op w cells s.op

-- the cells after steps, of which the first n are left out
unfoldable pub exec : World → ℕ → List Step → Cells → Cells
exec w n [] cells = cells
exec w zero (s ∷ steps) cells = exec w (left_out w cells s) steps (after w cells s)
exec w (suc n) (s ∷ steps) cells = exec w n steps cells
