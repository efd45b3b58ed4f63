use Rattle.std.proofs.Common.{sym}
use Rattle.vod_four.specs.Fields.{one-plane}
use Rattle.vod_four.proofs.Four.one_plane.Goals as goal

pub returns : goal.returns
returns c = rw (← c.self.view_is) (sym (one-plane c.self.inside.width c.self.inside.ones c.self.inside.unks))
