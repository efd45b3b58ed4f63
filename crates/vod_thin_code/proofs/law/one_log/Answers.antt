use Rattle.vod_thin_code.proofs.Logs.{same_log}
use Rattle.vod_thin_code.proofs.law.one_log.Goals as goal

pub returns : goal.returns
returns c = same_log
