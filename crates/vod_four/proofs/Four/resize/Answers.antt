use Rattle.vod_bits.specs.Lengths.{resize_length}
use Rattle.std.proofs.Common.{sym, ◌∙◌}
use Rattle.vod_four.proofs.Moves.{resize-planes}
use Rattle.vod_four.proofs.Four.resize.Goals as goal

pub from_planes-requires : goal.from_planes-requires
from_planes-requires c =
    rw (c.resize.ensures, c.resize-2.ensures)
    (resize_length c.args.width c.args.signed c.one_plane.result ∙ sym (resize_length c.args.width c.args.signed c.unk_plane.result))

pub returns : goal.returns
returns c = rw (c.from_planes.ensures, c.resize.ensures, c.resize-2.ensures, c.one_plane.ensures, c.unk_plane.ensures) (resize-planes c.args.width c.args.signed c.args.self)
