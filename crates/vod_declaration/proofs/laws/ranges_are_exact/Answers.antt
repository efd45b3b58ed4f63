use Rattle.vod_declaration.specs.FlatLaws.{expression_flat}
use Rattle.vod_declaration.specs.RangesLaws.{range_are, is_range, range_flat}
use Rattle.vod_declaration.proofs.laws.ranges_are_exact.Goals as goal

pub returns-clause-laws : goal.returns-clause-laws
returns-clause-laws c = (range_flat (expression_flat c.phrases_are_exact.ensures.expression)).laws

pub returns-clause-phrase : goal.returns-clause-phrase
returns-clause-phrase c = range_are

pub returns-clause-range : goal.returns-clause-range
returns-clause-range c = is_range c.phrases_are_exact.ensures.before

pub returns-clause-shallow : goal.returns-clause-shallow
returns-clause-shallow c = (range_flat (expression_flat c.phrases_are_exact.ensures.expression)).shallow
