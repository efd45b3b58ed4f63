use Rattle.vod_token.proofs.Cuts.{one_fall, some_fall}
use Rattle.vod_token.proofs.cut.one_reading.Goals as goal

pub returns-clause-some : goal.returns-clause-some
returns-clause-some c = λ source. some_fall 0 source

pub returns-clause-one : goal.returns-clause-one
returns-clause-one c = λ source ts us fault other h g. one_fall h us other g
