use Rattle.std.proofs.Common.{refl}
use Rattle.vod_bits.proofs.Views.{number-view}
use Rattle.vod_bits.proofs.Bits.lt.Goals as goal

pub returns : goal.returns
returns c = rw (number-view c.self.inside.width c.self.inside.word c.args.self c.self.invariant.2 c.self.view_is, number-view c.other.inside.width c.other.inside.word c.args.other c.other.invariant.2 c.other.view_is) refl
