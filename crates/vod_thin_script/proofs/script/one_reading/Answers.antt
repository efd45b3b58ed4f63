use Rattle.vod_thin_script.proofs.Once.{script_once}
use Rattle.vod_thin_script.proofs.script.one_reading.Goals as goal

pub returns : goal.returns
returns c = script_once
