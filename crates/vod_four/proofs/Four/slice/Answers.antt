use Rattle.vod_bits.specs.Lengths.{map_length, slice_length}
use Rattle.std.proofs.Common.{◌≡◌, arith, length, sym, ◌∙◌}
use Rattle.vod_four.specs.Fields.{one_bit, unk_bit}
use Rattle.vod_four.proofs.Moves.{slice-planes}
use Rattle.vod_four.proofs.Four.slice.Goals as goal

pub from_planes-requires : goal.from_planes-requires
from_planes-requires c =
    let ones : length c.one_plane.result ≡ length c.args.self = rw c.one_plane.ensures (map_length one_bit c.args.self) in
    let unks : length c.unk_plane.result ≡ length c.args.self = rw c.unk_plane.ensures (map_length unk_bit c.args.self) in
    rw (c.slice.ensures, c.slice-2.ensures)
    (slice_length c.args.low c.args.width c.one_plane.result (omega arith) ∙ sym (slice_length c.args.low c.args.width c.unk_plane.result (omega arith)))

pub returns : goal.returns
returns c = rw (c.from_planes.ensures, c.slice.ensures, c.slice-2.ensures, c.one_plane.ensures, c.unk_plane.ensures) (slice-planes c.args.low c.args.width c.args.self)
