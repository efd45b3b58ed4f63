use Rattle.vod_thin_design.proofs.Agree.{value_of-agree}
use Rattle.vod_thin_design.proofs.thin.value_hangs_on_reads.Goals as goal

pub returns : goal.returns
returns c = value_of-agree
