use Rattle.vod_width.proofs.Concats.{concat_sees}
use Rattle.vod_width.proofs.parts.concat.Goals as goal

pub returns : goal.returns
returns c = λ ys s. concat_sees c.unplaced.result c.args.parts ys c.total-width.result c.concat_tree.result c.unplaced.ensures c.total-width.ensures c.concat_tree.ensures s
