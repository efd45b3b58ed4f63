-- What is put together piece by piece: bits, and the inputs of a gate.
use Rattle.std.specs.Prelude.{◌-◌, List, [], ◌∷◌, length, drop, Option, None, Some}
use Rattle.vod_bits.specs.Bit.{Bit, B0, B1, not_bit, and_bit, or_bit, xor_bit}
use Rattle.vod_bits.specs.declared.TheConstants.{WIDTH}
use Rattle.vod_design.specs.declared.sized.GateOp.{GateOp}
use Rattle.vod_design.specs.declared.sized.GateOp.TheVariants as gate
use Rattle.vod_design.specs.Eval.{latest, buf_bit}

-- the bits so far, of which there may be none
abbrev pub bits_of_option : Option (List Bit) → List Bit
bits_of_option None = []
bits_of_option (Some bits) = bits

-- the bits, which count as a 0 where there are none
abbrev pub filled_bits : Option (List Bit) → List Bit
filled_bits None = B0 ∷ []
filled_bits (Some bits) = bits

-- the lowest WIDTH of them
unfoldable pub lowest : List Bit → List Bit
lowest bits = drop (length bits - WIDTH) bits

-- what a gate begins with, before its first input
abbrev pub gate_start : Bit → GateOp → Bit
gate_start fill gate.And = B1
gate_start fill gate.Nand = B1
gate_start fill gate.Or = B0
gate_start fill gate.Nor = B0
gate_start fill gate.Xor = B0
gate_start fill gate.Xnor = B0
gate_start fill gate.Buf = fill
gate_start fill gate.Not = fill

-- what it makes of the inputs so far and one more
abbrev pub gate_table : GateOp → Bit → Bit → Bit
gate_table gate.And = and_bit
gate_table gate.Nand = and_bit
gate_table gate.Or = or_bit
gate_table gate.Nor = or_bit
gate_table gate.Xor = xor_bit
gate_table gate.Xnor = xor_bit
gate_table gate.Buf = latest
gate_table gate.Not = latest

-- what it makes of all of them together
abbrev pub gate_output : GateOp → Bit → Bit
gate_output gate.And b = b
gate_output gate.Nand b = not_bit b
gate_output gate.Or b = b
gate_output gate.Nor b = not_bit b
gate_output gate.Xor b = b
gate_output gate.Xnor b = not_bit b
gate_output gate.Buf b = buf_bit b
gate_output gate.Not b = not_bit b
