use Rattle.vod_bits.proofs.Views.{zip-view, below-view}
use Rattle.vod_bits.proofs.Numbers.{xor-bits}
use Rattle.vod_bits.specs.Bit.{xor_bit}
use Rattle.std.proofs.Common.{bit_xor}
use Rattle.std.proofs.lemmas.Nat.{xor_lt}
use Rattle.vod_bits.proofs.Bits.xor.Goals as goal

pub invariant_of-result : goal.invariant_of-result
invariant_of-result c = (
  c.self.invariant.0,
  c.self.invariant.1,
  xor_lt c.self.inside.width c.self.inside.word c.other.inside.word c.self.invariant.2
      (below-view c.self.inside.width c.other.inside.width c.self.inside.word c.other.inside.word c.args.self c.args.other c.self.view_is c.other.view_is c.requires c.other.invariant.2),
)

pub returns : goal.returns
returns c =
    zip-view xor_bit c.self.inside.width c.other.inside.width c.self.inside.word c.other.inside.word (bit_xor c.self.inside.word c.other.inside.word) c.args.self c.args.other
    (xor-bits c.self.inside.width c.self.inside.word c.other.inside.word) c.self.view_is c.other.view_is c.requires
