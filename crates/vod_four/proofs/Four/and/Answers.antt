use Rattle.vod_bits.specs.Bit.{and_bit}
use Rattle.vod_four.specs.Fields.{sure_bit, possible_bit}
use Rattle.vod_four.proofs.Planes.{pair_length, and-planes}
use Rattle.vod_four.proofs.Four.and.Goals as goal

pub from_bounds-requires : goal.from_bounds-requires
from_bounds-requires c =
    rw (c.and.ensures, c.and-2.ensures, c.sure_plane.ensures, c.sure_plane-2.ensures, c.possible_plane.ensures, c.possible_plane-2.ensures)
    (pair_length and_bit and_bit sure_bit possible_bit c.args.self c.args.other c.requires)

pub returns : goal.returns
returns c =
    rw (c.from_bounds.ensures, c.and.ensures, c.and-2.ensures, c.sure_plane.ensures, c.sure_plane-2.ensures, c.possible_plane.ensures, c.possible_plane-2.ensures)
    (and-planes c.args.self c.args.other)
