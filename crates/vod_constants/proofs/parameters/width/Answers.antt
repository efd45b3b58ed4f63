use Rattle.std.proofs.Common.{length, sym, ◌∙◌, ap}
use Rattle.vod_bits.specs.Fields.{width_back}
use Rattle.vod_constants.proofs.parameters.width.Goals as goal

pub returns : goal.returns
returns c = sym (sym (ap length c.bits.view_is) ∙ width_back c.bits.inside.width c.bits.inside.word)
