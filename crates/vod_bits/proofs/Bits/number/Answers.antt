use Rattle.std.proofs.Common.{sym}
use Rattle.vod_bits.proofs.Views.{number-view}
use Rattle.vod_bits.proofs.Bits.number.Goals as goal

pub returns : goal.returns
returns c = sym (number-view c.self.inside.width c.self.inside.word c.args.self c.self.invariant.2 c.self.view_is)
