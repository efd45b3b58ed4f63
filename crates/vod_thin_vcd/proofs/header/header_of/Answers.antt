-- The pieces in turn are the header.
use Rattle.vod_thin_vcd.proofs.header.header_of.Goals as goal

pub returns : goal.returns
returns c =
    rw (
      c.in_ok-extend_from_slice-4.ensures.items,
      c.in_ok-extend_from_slice-3.ensures.items,
      c.in_ok-add_variables.ensures,
      c.in_ok-add_scope.ensures,
      c.in_ok-extend_from_slice-2.ensures.items,
      c.in_ok-add_digest.ensures,
      c.in_ok-extend_from_slice.ensures.items,
      c.new-text.ensures.items,
      c.name.ensures,
      c.signals.ensures.items,
    )
