use Rattle.std.proofs.Common.{◌∙◌}
use Rattle.vod_four.proofs.Planes.{of-bits, bits-known}
use Rattle.vod_four.proofs.Four.of.Goals as goal

pub returns-clause-value : goal.returns-clause-value
returns-clause-value c = of-bits c.bits.inside.width c.bits.inside.word ∙ c.bits.view_is

pub returns-clause-known : goal.returns-clause-known
returns-clause-known c = rw (← c.bits.view_is) (bits-known c.bits.inside.width c.bits.inside.word)
