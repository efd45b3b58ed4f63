-- The pieces in turn are the line.
use Rattle.std.proofs.Common.{append_assoc}
use Rattle.vod_vcd.proofs.header.add_digest.Goals as goal

pub returns : goal.returns
returns c =
    rw (
      c.in_ok-extend_from_slice-3.ensures.items,
      c.in_ok-extend_from_slice-2.ensures.items,
      c.in_ok-extend_from_slice.ensures.items,
      c.as_bytes.ensures.value,
      c.in_ok-encode.ensures,
      c.digest.ensures,
    )
    (simp append_assoc)
