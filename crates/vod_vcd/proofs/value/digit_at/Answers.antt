use Rattle.vod_vcd.proofs.Digits.{digit-at}
use Rattle.vod_vcd.proofs.value.digit_at.Goals as goal

pub returns : goal.returns
returns c = digit-at c.args.ones c.args.unks c.args.place
