-- Values of one bit, and the inputs of a gate.
use Rattle.std.proofs.Common.{◌≡◌, List, [], ◌∷◌, ◌++◌, length, map, refl, ◌∙◌, ap, arith}
use Rattle.vod_bits.specs.Bit.{Bit, B0, B1, BX, BZ, not_bit}
use Rattle.vod_bits.specs.Value.{upper_bit, zip_with}
use Rattle.vod_design.specs.declared.sized.GateOp.{GateOp}
use Rattle.vod_design.specs.declared.sized.GateOp.TheVariants as gate
use Rattle.vod_design.specs.Eval.{fold_inputs, buf_bit, gate_bit}
use Rattle.vod_eval.specs.Pieces.{gate_start, gate_table, gate_output}

-- a value of one bit is that bit
pub one_bit : (xs : List Bit) → length xs ≡ 1 → xs ≡ upper_bit xs ∷ []
one_bit [] h = absurd (omega arith)
one_bit (x ∷ []) h = refl
one_bit (x ∷ y ∷ xs) h = absurd (omega arith)

pub zip_one : (f : Bit → Bit → Bit) (xs ys : List Bit) → length xs ≡ 1 → length ys ≡ 1 → zip_with f xs ys ≡ f (upper_bit xs) (upper_bit ys) ∷ []
unfolding zip_with
zip_one f [] ys h g = absurd (omega arith)
zip_one f (x ∷ []) [] h g = absurd (omega arith)
zip_one f (x ∷ []) (y ∷ []) h g = refl
zip_one f (x ∷ []) (y ∷ z ∷ ys) h g = absurd (omega arith)
zip_one f (x ∷ w ∷ xs) ys h g = absurd (omega arith)

pub map_one : (xs : List Bit) → length xs ≡ 1 → map not_bit xs ≡ not_bit (upper_bit xs) ∷ []
map_one xs h = ap (map not_bit) (one_bit xs h)

twice : (b : Bit) → not_bit (not_bit b) ≡ buf_bit b
twice B0 = refl
twice B1 = refl
twice BX = refl
twice BZ = refl

pub map_twice : (xs : List Bit) → length xs ≡ 1 → map not_bit (map not_bit xs) ≡ buf_bit (upper_bit xs) ∷ []
map_twice xs h = ap (λ ys. map not_bit (map not_bit ys)) (one_bit xs h) ∙ ap (λ b. b ∷ []) (twice (upper_bit xs))

pub fold_none : (f : Bit → Bit → Bit) (start : Bit) → start ≡ fold_inputs f start []
unfolding fold_inputs
fold_none f start = refl

-- one input more
pub fold_more : (f : Bit → Bit → Bit) (start : Bit) (xs : List Bit) (b : Bit) → fold_inputs f start (xs ++ b ∷ []) ≡ f (fold_inputs f start xs) b
unfolding fold_inputs
fold_more f start [] b = refl
fold_more f start (x ∷ xs) b = fold_more f (f start x) xs b

-- a gate is its table folded over its inputs
pub gate_is : (fill : Bit) (op : GateOp) (inputs : List Bit) → gate_output op (fold_inputs (gate_table op) (gate_start fill op) inputs) ≡ gate_bit fill op inputs
gate_is fill gate.And inputs = refl
gate_is fill gate.Nand inputs = refl
gate_is fill gate.Or inputs = refl
gate_is fill gate.Nor inputs = refl
gate_is fill gate.Xor inputs = refl
gate_is fill gate.Xnor inputs = refl
gate_is fill gate.Buf inputs = refl
gate_is fill gate.Not inputs = refl
