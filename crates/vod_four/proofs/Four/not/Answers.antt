use Rattle.vod_four.proofs.Planes.{not-planes}
use Rattle.vod_four.proofs.Four.not.Goals as goal

pub returns : goal.returns
returns c = rw (c.from_bounds.ensures, c.not.ensures, c.not-2.ensures, c.possible_plane.ensures, c.sure_plane.ensures) (not-planes c.args.self)
