use Rattle.vod_thin_code.proofs.Batches.{short}
use Rattle.vod_thin_code.proofs.law.batches_are_short.Goals as goal

pub returns : goal.returns
returns c = short
