use Rattle.vod_constants.proofs.Facts.{span_first}
use Rattle.vod_constants.proofs.bounds.span_fault.Goals as goal

pub returns : goal.returns
returns c x y p a b =
    rw (c.join-3.ensures, c.join-2.ensures, c.join.ensures, c.fault_if-order.ensures, c.in_wrong_order.ensures, c.width_fault-wide.ensures, c.selected.ensures, a.fault, b.fault, a.natural, b.natural, a.index, b.index, ← p) (span_first x y)
