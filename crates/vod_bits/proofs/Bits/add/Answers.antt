use Rattle.std.proofs.Common.{arith, ◌≤◌, ◌+◌}
use Rattle.vod_bits.proofs.Views.{length-view, number-view, kept-bits}
use Rattle.vod_bits.specs.Word.{word_bits}
use Rattle.vod_bits.proofs.Bits.add.Goals as goal

pub returns : goal.returns
returns c =
    let fits : c.self.inside.width ≤ word_bits = omega arith in
    rw (length-view c.self.inside.width c.self.inside.word c.args.self c.self.view_is, number-view c.self.inside.width c.self.inside.word c.args.self c.self.invariant.2 c.self.view_is, number-view c.other.inside.width c.other.inside.word c.args.other c.other.invariant.2 c.other.view_is, c.low_bits.ensures)
    (kept-bits c.self.inside.width word_bits (c.self.inside.word + c.other.inside.word) fits)
