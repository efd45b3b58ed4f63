use Rattle.vod_places.proofs.Least.{least_is}
use Rattle.vod_places.proofs.least_is_least.Goals as goal

pub returns : goal.returns
returns c = least_is
