use Rattle.vod_width.proofs.Refuse.{first_least}
use Rattle.vod_width.proofs.sizing.first_is_least.Goals as goal

pub returns : goal.returns
returns c = first_least
