use Rattle.std.proofs.lemmas.Nat.{and_mask}
use Rattle.vod_bits.proofs.word.low_bits.Goals as goal

pub returns : goal.returns
returns c = rw c.ones.ensures (and_mask c.args.word c.args.width)
