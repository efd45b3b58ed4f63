use Rattle.vod_thin_code.proofs.Batches.{same_batch}
use Rattle.vod_thin_code.proofs.law.one_batch.Goals as goal

pub returns : goal.returns
returns c = same_batch
