use Rattle.std.proofs.Common.{arith, ◌≤◌, ◌*◌, ◌^◌, ◌∙◌}
use Rattle.vod_bits.proofs.Views.{kept-bits}
use Rattle.vod_bits.proofs.Numbers.{shl-bits}
use Rattle.vod_bits.specs.Word.{word_bits}
use Rattle.vod_bits.proofs.Bits.shl.Goals as goal

pub returns : goal.returns
returns c =
    let fits : c.self.inside.width ≤ word_bits = omega arith in
    rw (← c.self.view_is, c.low_bits.ensures, c.shifted_left.ensures)
    (kept-bits c.self.inside.width word_bits (c.self.inside.word * 2 ^ c.args.amount) fits ∙ shl-bits c.self.inside.width c.args.amount c.self.inside.word)
