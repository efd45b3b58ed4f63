use Rattle.vod_four.proofs.Planes.{possible-planes}
use Rattle.vod_four.proofs.Four.possible_plane.Goals as goal

pub returns : goal.returns
returns c = rw (c.or.ensures, c.one_plane.ensures, c.unk_plane.ensures) (possible-planes c.args.self)
