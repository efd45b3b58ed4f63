use Rattle.vod_design.proofs.ForgetsRun.{run-unplaced}
use Rattle.vod_design.proofs.statement.run_forgets_places.Goals as goal

pub returns : goal.returns
returns c = run-unplaced
