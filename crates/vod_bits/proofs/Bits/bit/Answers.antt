use Rattle.vod_bits.proofs.Views.{one_bit-view}
use Rattle.vod_bits.proofs.Bits.bit.Goals as goal

pub returns : goal.returns
returns c = one_bit-view c.args.test c.from.result c.from.ensures
