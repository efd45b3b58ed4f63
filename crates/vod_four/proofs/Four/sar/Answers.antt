use Rattle.vod_bits.specs.Lengths.{map_length, shift_right_length}
use Rattle.std.proofs.Common.{sym, ◌∙◌, length, ◌≡◌}
use Rattle.vod_four.specs.Fields.{sure_bit, unk_bit}
use Rattle.vod_four.proofs.Moves.{copying-planes}
use Rattle.vod_four.proofs.Known.{shift_signed-known, shift_signed-unknown}
use Rattle.vod_bits.specs.Value.{upper_bit}
use Rattle.vod_four.proofs.Four.sar.Goals as goal

pub from_planes-requires : goal.from_planes-requires
from_planes-requires c =
    let sure : length c.sure_plane.result ≡ length c.args.self = rw c.sure_plane.ensures (map_length sure_bit c.args.self) in
    let unks : length c.unk_plane.result ≡ length c.args.self = rw c.unk_plane.ensures (map_length unk_bit c.args.self) in
    rw (c.sar.ensures, c.sar-in-Some.ensures) (shift_right_length (upper_bit c.sure_plane.result) c.number.result c.sure_plane.result ∙ sure ∙ sym unks ∙ sym (shift_right_length (upper_bit c.unk_plane.result) c.number-in-Some.result c.unk_plane.result))

pub returns-in-Some : goal.returns-in-Some
returns-in-Some c =
    rw (c.from_planes.ensures, c.sar.ensures, c.sar-in-Some.ensures, c.number.ensures, c.number-in-Some.ensures, c.in-Some.ensures.0, c.sure_plane.ensures, c.unk_plane.ensures, shift_signed-known c.args.amount c.args.self c.in-Some.ensures.1)
    (copying-planes _ c.args.self)

pub returns-in-None : goal.returns-in-None
returns-in-None c = rw c.all_unknown.ensures (sym (shift_signed-unknown c.args.amount c.args.self c.in-None.ensures))
