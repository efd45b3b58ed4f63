use Rattle.vod_cells.proofs.Edges.{truth_one}
use Rattle.vod_cells.proofs.reached.is_one.Goals as goal

pub returns-in-Some : goal.returns-in-Some
returns-in-Some c = truth_one c.args.bit c.in-Some.truth c.requires c.in-Some.ensures
