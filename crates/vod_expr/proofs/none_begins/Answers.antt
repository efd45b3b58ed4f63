use Rattle.vod_expr_machine.specs.Numerals.{number_of}
use Rattle.vod_expr.proofs.Answered.{refused_by}
use Rattle.vod_expr.proofs.Ends.{none_begins_by}
use Rattle.vod_expr.proofs.Numerals.{knows}
use Rattle.vod_expr.proofs.none_begins.Goals as goal

pub returns-clause-none : goal.returns-clause-none
returns-clause-none c = λ t ts none begins. none_begins_by number_of (knows c.one_literal.ensures) t ts none begins

pub returns-clause-refused : goal.returns-clause-refused
returns-clause-refused c = λ t ts none. refused_by t ts none
