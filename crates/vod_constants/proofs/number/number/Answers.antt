use Rattle.std.proofs.Common.{sym, ◌∙◌, ap, mod-eq_of_lt}
use Rattle.vod_bits.specs.Fields.{number-of_bits}
use Rattle.vod_bits.specs.Value.{number_of}
use Rattle.vod_constants.proofs.number.number.Goals as goal

pub returns : goal.returns
returns c = sym (sym (ap number_of c.bits.view_is) ∙ number-of_bits c.bits.inside.width c.bits.inside.word ∙ mod-eq_of_lt c.bits.invariant.2)
