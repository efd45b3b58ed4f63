use Rattle.vod_four.proofs.Planes.{sure-planes}
use Rattle.vod_four.proofs.Four.sure_plane.Goals as goal

pub returns : goal.returns
returns c = rw (c.and.ensures, c.not.ensures, c.one_plane.ensures, c.unk_plane.ensures) (sure-planes c.args.self)
