use Rattle.std.proofs.Common.{arith, ◌≡◌, ◌≤◌, ◌+◌, ◌/◌, ◌^◌, ◌∙◌, length}
use Rattle.vod_bits.proofs.Views.{length-view}
use Rattle.vod_bits.proofs.Numbers.{low-bits, slice-bits}
use Rattle.vod_bits.proofs.Bits.slice.Goals as goal

pub returns : goal.returns
returns c =
    let len : length c.args.self ≡ c.self.inside.width = length-view c.self.inside.width c.self.inside.word c.args.self c.self.view_is in
    let inside : c.args.low + c.args.width ≤ c.self.inside.width = omega arith in
    rw (← c.self.view_is, c.low_bits.ensures)
    (low-bits c.args.width c.args.width (c.self.inside.word / 2 ^ c.args.low) (omega arith) ∙ slice-bits c.args.low c.args.width c.self.inside.width c.self.inside.word inside)
