use Rattle.vod_expr_machine.specs.Numerals.{number_of}
use Rattle.vod_expr.proofs.Numerals.{knows}
use Rattle.vod_expr.proofs.Unique.{one_tree_by}
use Rattle.vod_expr.proofs.one_tree.Goals as goal

pub returns : goal.returns
returns c = one_tree_by number_of (knows c.one_literal.ensures)
