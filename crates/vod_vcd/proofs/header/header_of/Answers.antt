-- The pieces in turn are the header.
use Rattle.vod_vcd.proofs.header.header_of.Goals as goal

pub returns : goal.returns
returns c =
    rw (
      c.in_ok-extend_from_slice-2.ensures.items,
      c.in_ok-add_scopes.ensures,
      c.in_ok-add_timescale.ensures,
      c.in_ok-add_digest.ensures,
      c.in_ok-extend_from_slice.ensures.items,
      c.new-text.ensures.items,
      c.precision.ensures,
    )
