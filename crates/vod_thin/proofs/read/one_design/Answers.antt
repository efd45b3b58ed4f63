use Rattle.vod_thin.proofs.ReadLaws.{one_design}
use Rattle.vod_thin.proofs.read.one_design.Goals as goal

pub returns : goal.returns
returns c = one_design c.one_sentence.ensures.one
