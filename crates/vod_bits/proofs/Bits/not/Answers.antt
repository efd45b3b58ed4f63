use Rattle.std.proofs.Common.{arith, pow_pos}
use Rattle.vod_bits.proofs.Numbers.{not-bits}
use Rattle.std.proofs.lemmas.Nat.{xor_lt}
use Rattle.vod_bits.proofs.Bits.not.Goals as goal

pub invariant_of-result : goal.invariant_of-result
invariant_of-result c =
    (c.self.invariant.0, c.self.invariant.1, xor_lt c.self.inside.width c.self.inside.word c.ones.result c.self.invariant.2 (omega (arith, pow_pos c.self.inside.width)))

pub returns : goal.returns
returns c = rw (← c.self.view_is, c.ones.ensures) (not-bits c.self.inside.width c.self.inside.word)
