use Rattle.vod_bits.specs.Bit.{or_bit}
use Rattle.vod_four.specs.Fields.{sure_bit, possible_bit}
use Rattle.vod_four.proofs.Planes.{pair_length, or-planes}
use Rattle.vod_four.proofs.Four.or.Goals as goal

pub from_bounds-requires : goal.from_bounds-requires
from_bounds-requires c =
    rw (c.or.ensures, c.or-2.ensures, c.sure_plane.ensures, c.sure_plane-2.ensures, c.possible_plane.ensures, c.possible_plane-2.ensures)
    (pair_length or_bit or_bit sure_bit possible_bit c.args.self c.args.other c.requires)

pub returns : goal.returns
returns c =
    rw (c.from_bounds.ensures, c.or.ensures, c.or-2.ensures, c.sure_plane.ensures, c.sure_plane-2.ensures, c.possible_plane.ensures, c.possible_plane-2.ensures)
    (or-planes c.args.self c.args.other)
