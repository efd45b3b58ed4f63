use Rattle.vod_bits.proofs.Numbers.{shr-bits}
use Rattle.vod_bits.proofs.Bits.shr.Goals as goal

pub returns : goal.returns
returns c = rw (← c.self.view_is, c.shifted_right.ensures) (shr-bits c.self.inside.width c.args.amount c.self.inside.word c.self.invariant.2)
