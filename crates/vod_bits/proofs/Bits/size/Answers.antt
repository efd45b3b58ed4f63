use Rattle.std.proofs.Common.{sym}
use Rattle.vod_bits.proofs.Views.{length-view}
use Rattle.vod_bits.proofs.Bits.size.Goals as goal

pub returns : goal.returns
returns c = sym (length-view c.self.inside.width c.self.inside.word c.args.self c.self.view_is)
