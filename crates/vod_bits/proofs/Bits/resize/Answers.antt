use Rattle.std.proofs.Common.{arith, ◌≡◌, ◌≤◌, ◌∙◌, sym, ap, cond}
use Rattle.vod_bits.specs.Bit.{bit_if, B0}
use Rattle.vod_bits.specs.Value.{bits_of}
use Rattle.vod_bits.proofs.Numbers.{low-bits, narrow-bits}
use Rattle.vod_bits.proofs.Places.{fill_of}
use Rattle.vod_bits.proofs.Signs.{upper-bits, widen-lt, widen-bits}
use Rattle.vod_bits.proofs.Bits.resize.Goals as goal

pub returns-then-width-self : goal.returns-then-width-self
returns-then-width-self c =
    rw (← c.self.view_is, c.low_bits.ensures)
    (low-bits c.args.width c.args.width c.self.inside.word (omega arith) ∙ narrow-bits c.args.signed c.args.width c.self.inside.width c.self.inside.word c.if-width-self.true)

pub invariant_of-result-2 : goal.invariant_of-result-2
invariant_of-result-2 c =
    let wider : c.self.inside.width ≤ c.args.width = omega arith in
    (c.requires.some, c.requires.within, rw (c.copies.ensures, c.copies-2.ensures) (widen-lt c.self.inside.width c.args.width c.self.inside.word c.has_sign-fill.result wider c.self.invariant.2))

pub returns : goal.returns
returns c =
    let wider : c.self.inside.width ≤ c.args.width = omega arith in
    let fill : bit_if c.has_sign-fill.result ≡ fill_of c.args.signed (bits_of c.self.inside.width c.self.inside.word)
    = c.has_sign-fill.ensures ∙ ap (λ b. cond c.args.signed b B0) (sym (upper-bits c.self.inside.width c.self.inside.word c.self.invariant.0)) in
    rw (← c.self.view_is, c.copies.ensures, c.copies-2.ensures)
    (widen-bits c.has_sign-fill.result c.args.signed c.self.inside.width c.args.width c.self.inside.word wider c.self.invariant.2 fill)
