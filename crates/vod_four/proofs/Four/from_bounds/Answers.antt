use Rattle.vod_four.proofs.Planes.{bounds-planes, bounds_length}
use Rattle.vod_four.proofs.Four.from_bounds.Goals as goal

pub from_planes-requires : goal.from_planes-requires
from_planes-requires c = rw (c.and.ensures, c.not.ensures) (bounds_length c.args.sure c.args.possible c.requires)

pub returns : goal.returns
returns c = rw (c.from_planes.ensures, c.and.ensures, c.not.ensures) (bounds-planes c.args.sure c.args.possible)
