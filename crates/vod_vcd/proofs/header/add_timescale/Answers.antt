-- The pieces in turn are the line.
use Rattle.std.proofs.Common.{append_assoc}
use Rattle.vod_vcd.proofs.header.add_timescale.Goals as goal

pub returns : goal.returns
returns c =
    rw (
      c.in_ok-extend_from_slice-4.ensures.items,
      c.in_ok-extend_from_slice-3.ensures.items,
      c.in_ok-extend_from_slice-2.ensures.items,
      c.in_ok-add_number.ensures,
      c.in_ok-extend_from_slice.ensures.items,
    )
    (simp (append_assoc, c.unit_name.ensures, c.from.ensures))
