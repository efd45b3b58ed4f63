-- The text is cut at the place of the byte.
use Rattle.vod_thin_script.proofs.Cuts.{cut_lacks, cut_stops}
use Rattle.vod_thin_script.proofs.pieces.cut.Goals as goal

pub returns-clause-before : goal.returns-clause-before
returns-clause-before c = rw (c.split_at.ensures.front, c.unwrap_or.ensures) (cut_lacks _ _ _ c.place.ensures)

pub returns-clause-from : goal.returns-clause-from
returns-clause-from c = rw (c.split_at.ensures.back, c.unwrap_or.ensures) (cut_stops _ _ _ c.place.ensures)
