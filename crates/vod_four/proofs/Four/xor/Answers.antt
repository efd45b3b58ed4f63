use Rattle.vod_bits.specs.Lengths.{map_length, zip_length}
use Rattle.std.proofs.Common.{◌≡◌, ◌∙◌, sym, length}
use Rattle.vod_bits.specs.Bit.{and_bit, or_bit, xor_bit, not_bit}
use Rattle.vod_four.specs.Fields.{one_bit, unk_bit}
use Rattle.vod_four.proofs.Planes.{pair_length, xor-planes}
use Rattle.vod_four.proofs.Four.xor.Goals as goal

-- the planes have one length
pub and-requires : goal.and-requires
and-requires c =
    rw (c.xor.ensures, c.not.ensures, map_length not_bit c.or-unks.result, c.or-unks.ensures, c.one_plane.ensures, c.one_plane-2.ensures, c.unk_plane.ensures, c.unk_plane-2.ensures)
    (pair_length xor_bit or_bit one_bit unk_bit c.args.self c.args.other c.requires)

pub from_planes-requires : goal.from_planes-requires
from_planes-requires c =
    let lengths : length c.xor.result ≡ length c.or-unks.result
    = rw (c.xor.ensures, c.or-unks.ensures, c.one_plane.ensures, c.one_plane-2.ensures, c.unk_plane.ensures, c.unk_plane-2.ensures)
    (pair_length xor_bit or_bit one_bit unk_bit c.args.self c.args.other c.requires) in
    let turned : length c.not.result ≡ length c.or-unks.result = rw c.not.ensures (map_length not_bit c.or-unks.result) in
    rw c.and.ensures (zip_length and_bit c.xor.result c.not.result (lengths ∙ sym turned) ∙ lengths)

pub returns : goal.returns
returns c =
    rw (c.from_planes.ensures, c.and.ensures, c.not.ensures, c.xor.ensures, c.or-unks.ensures, c.one_plane.ensures, c.one_plane-2.ensures, c.unk_plane.ensures, c.unk_plane-2.ensures)
    (xor-planes c.args.self c.args.other)
