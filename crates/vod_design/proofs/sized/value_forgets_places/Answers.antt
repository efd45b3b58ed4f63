use Rattle.vod_design.proofs.Forgets.{eval-unplaced}
use Rattle.vod_design.proofs.sized.value_forgets_places.Goals as goal

pub returns : goal.returns
returns c = eval-unplaced
