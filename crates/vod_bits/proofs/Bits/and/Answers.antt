use Rattle.vod_bits.proofs.Views.{zip-view}
use Rattle.vod_bits.proofs.Numbers.{and-bits}
use Rattle.vod_bits.specs.Bit.{and_bit}
use Rattle.std.proofs.Common.{bit_and}
use Rattle.vod_bits.proofs.Bits.and.Goals as goal

pub returns : goal.returns
returns c =
    zip-view and_bit c.self.inside.width c.other.inside.width c.self.inside.word c.other.inside.word (bit_and c.self.inside.word c.other.inside.word) c.args.self c.args.other
    (and-bits c.self.inside.width c.self.inside.word c.other.inside.word) c.self.view_is c.other.view_is c.requires
