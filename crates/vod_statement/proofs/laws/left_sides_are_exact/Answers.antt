use Rattle.vod_statement.specs.LeftSideLaws.{lval_laws, lval_is, is_lval, lval_deep, lval_starts}
use Rattle.vod_statement.proofs.laws.left_sides_are_exact.Goals as goal

pub returns-clause-laws : goal.returns-clause-laws
returns-clause-laws c = lval_laws c.phrases_are_exact.ensures.expression

pub returns-clause-phrase : goal.returns-clause-phrase
returns-clause-phrase c = lval_is

pub returns-clause-left_side : goal.returns-clause-left_side
returns-clause-left_side c = is_lval c.phrases_are_exact.ensures.before

pub returns-clause-deep : goal.returns-clause-deep
returns-clause-deep c = lval_deep

pub returns-clause-starts : goal.returns-clause-starts
returns-clause-starts c = lval_starts
