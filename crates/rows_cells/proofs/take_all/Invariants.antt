use Rattle.std.proofs.Common.{◌≡◌}
use Rattle.rows_cells.specs.Small.{small}
use Rattle.rows_cells.proofs.take_all.Given as goal

abbrev pub invariant-loop-text : goal.invariant-loop-text
invariant-loop-text g l = l.cells.design ≡ small
