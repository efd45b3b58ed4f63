use Rattle.vod_four.proofs.Moves.{append-planes}
use Rattle.vod_four.proofs.Four.concat.Goals as goal

pub returns : goal.returns
returns c =
    rw (c.from_planes.ensures, c.concat.ensures, c.concat-2.ensures, c.one_plane.ensures, c.one_plane-2.ensures, c.unk_plane.ensures, c.unk_plane-2.ensures)
    (append-planes c.args.self c.args.low)
