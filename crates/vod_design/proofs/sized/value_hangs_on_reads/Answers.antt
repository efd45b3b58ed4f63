use Rattle.vod_design.proofs.Hangs.{eval-agree}
use Rattle.vod_design.proofs.sized.value_hangs_on_reads.Goals as goal

pub returns : goal.returns
returns c = eval-agree
