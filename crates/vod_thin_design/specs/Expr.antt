-- The value of an expression and the signals that it reads (IEEE 1364-2005, 5.1), each from those of its operands.
use Rattle.std.specs.Prelude.{ℕ, List, [], ◌∷◌, ◌++◌}
use Rattle.vod_thin_design.specs.declared.thin.Bit.{Bit}
use Rattle.vod_thin_design.specs.declared.thin.Expr.{Expr, fold-Expr}
use Rattle.vod_thin_design.specs.declared.thin.Expr.TheOpen.{Expr-F, Signal, Not, And, Xor, Or}
use Rattle.vod_thin_design.specs.Bits.{not_bit, and_bit, xor_bit, or_bit}

-- the value of an operator, or of a signal, where the signals have the given values
abbrev pub value_step : (ℕ → Bit) → Expr-F Bit → Bit
value_step values (Signal s) = values s
value_step values (Not a) = not_bit a
value_step values (And a b) = and_bit a b
value_step values (Xor a b) = xor_bit a b
value_step values (Or a b) = or_bit a b

-- the value of an expression where the signals have the given values
unfoldable pub value_of : Expr → (ℕ → Bit) → Bit
value_of e values = fold-Expr Bit (value_step values) e

-- the signals that an operator's operands read
abbrev pub reads_step : Expr-F (List ℕ) → List ℕ
reads_step (Signal s) = s ∷ []
reads_step (Not a) = a
reads_step (And a b) = a ++ b
reads_step (Xor a b) = a ++ b
reads_step (Or a b) = a ++ b

-- the signals that an expression reads, from the left
unfoldable pub reads : Expr → List ℕ
reads e = fold-Expr (List ℕ) reads_step e
