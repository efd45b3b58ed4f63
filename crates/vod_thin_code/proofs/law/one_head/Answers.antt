use Rattle.vod_thin_code.proofs.Logs.{same_head}
use Rattle.vod_thin_code.proofs.law.one_head.Goals as goal

pub returns : goal.returns
returns c = same_head
