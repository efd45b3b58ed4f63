use Rattle.std.proofs.Common.{◌≡◌, ◌∙◌, sym}
use Rattle.vod_bits.specs.Bit.{bit_if}
use Rattle.vod_bits.specs.Value.{bits_of, upper_bit}
use Rattle.vod_bits.proofs.Signs.{upper-bits, sar-lt, sar-bits}
use Rattle.vod_bits.proofs.Bits.sar.Goals as goal

pub invariant_of-result : goal.invariant_of-result
invariant_of-result c =
    (c.self.invariant.0, c.self.invariant.1, rw (c.shifted_right.ensures, c.copies-flip.ensures) (sar-lt c.self.inside.width c.args.amount c.self.inside.word c.has_upper_bit.result c.self.invariant.2))

pub returns : goal.returns
returns c =
    let upper : upper_bit (bits_of c.self.inside.width c.self.inside.word) ≡ bit_if c.has_upper_bit.result
    = upper-bits c.self.inside.width c.self.inside.word c.self.invariant.0 ∙ sym c.has_upper_bit.ensures in
    rw (← c.self.view_is, upper, c.shifted_right.ensures, c.copies-flip.ensures) (sar-bits c.has_upper_bit.result c.self.inside.width c.args.amount c.self.inside.word c.self.invariant.2)
