use Rattle.vod_bits.proofs.Views.{zip-view, below-view}
use Rattle.vod_bits.proofs.Numbers.{or-bits}
use Rattle.vod_bits.specs.Bit.{or_bit}
use Rattle.std.proofs.Common.{bit_or}
use Rattle.std.proofs.lemmas.Nat.{or_lt}
use Rattle.vod_bits.proofs.Bits.or.Goals as goal

pub invariant_of-result : goal.invariant_of-result
invariant_of-result c = (
  c.self.invariant.0,
  c.self.invariant.1,
  or_lt c.self.inside.width c.self.inside.word c.other.inside.word c.self.invariant.2
      (below-view c.self.inside.width c.other.inside.width c.self.inside.word c.other.inside.word c.args.self c.args.other c.self.view_is c.other.view_is c.requires c.other.invariant.2),
)

pub returns : goal.returns
returns c =
    zip-view or_bit c.self.inside.width c.other.inside.width c.self.inside.word c.other.inside.word (bit_or c.self.inside.word c.other.inside.word) c.args.self c.args.other
    (or-bits c.self.inside.width c.self.inside.word c.other.inside.word) c.self.view_is c.other.view_is c.requires
