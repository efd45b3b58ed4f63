use Rattle.std.proofs.Common.{length, sym, ◌∙◌, ap}
use Rattle.vod_four.specs.Fields.{four_width}
use Rattle.vod_four.proofs.Four.size.Goals as goal

pub returns : goal.returns
returns c = sym (four_width c.self.inside.width c.self.inside.ones c.self.inside.unks) ∙ ap length c.self.view_is
