-- The pieces in turn are the line.
use Rattle.std.proofs.Common.{append_assoc}
use Rattle.vod_vcd.proofs.header.add_variable.Goals as goal

pub returns : goal.returns
returns c =
    rw (
      c.in_ok-extend_from_slice-8.ensures.items,
      c.in_ok-add_range.ensures,
      c.in_ok-extend_from_slice-7.ensures.items,
      c.in_ok-extend_from_slice-6.ensures.items,
      c.in_ok-extend_from_slice-5.ensures.items,
      c.in_ok-extend_from_slice-4.ensures.items,
      c.in_ok-add_number.ensures,
      c.in_ok-extend_from_slice-3.ensures.items,
      c.in_ok-extend_from_slice-2.ensures.items,
      c.in_ok-extend_from_slice.ensures.items,
    )
    (simp (append_assoc, c.as_slice.ensures.value, c.as_slice-2.ensures, c.code_of.ensures, c.variable_type.ensures, c.from.ensures))
