use Rattle.std.proofs.Common.{arith, ◌≤◌, ◌+◌, ◌-◌, ◌^◌, ◌∙◌, ap, zero-add}
use Rattle.vod_bits.proofs.Views.{length-view, number-view, kept-bits, borrow-bits}
use Rattle.vod_bits.specs.Value.{bits_of}
use Rattle.vod_bits.specs.Word.{word_bits}
use Rattle.vod_bits.proofs.Bits.neg.Goals as goal

pub returns : goal.returns
returns c =
    let fits : c.self.inside.width ≤ word_bits = omega arith in
    rw (length-view c.self.inside.width c.self.inside.word c.args.self c.self.view_is, number-view c.self.inside.width c.self.inside.word c.args.self c.self.invariant.2 c.self.view_is, c.low_bits.ensures)
    (kept-bits c.self.inside.width word_bits (0 + (2 ^ word_bits - c.self.inside.word)) fits
    ∙ borrow-bits c.self.inside.width word_bits 0 c.self.inside.word fits (omega arith)
    ∙ ap (bits_of c.self.inside.width) (zero-add (2 ^ c.self.inside.width - c.self.inside.word)))
