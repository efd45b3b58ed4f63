use Rattle.vod_initial.specs.BelowLaws.{below_deep}
use Rattle.vod_initial.specs.DepthLaws.{deep_is}
use Rattle.vod_initial.specs.InitialFormLaws.{initial_laws, initial_starts}
use Rattle.vod_initial.specs.InitialLaws.{initial_is}
use Rattle.vod_initial.specs.InitialPhrases.{is_initial}
use Rattle.vod_initial.proofs.laws.initial_statements_are_exact.Goals as goal

pub returns-clause-laws : goal.returns-clause-laws
returns-clause-laws c = initial_laws c.phrases_are_exact.ensures.expression c.phrases_are_exact.ensures.number

pub returns-clause-phrase : goal.returns-clause-phrase
returns-clause-phrase c = initial_is

pub returns-clause-statement : goal.returns-clause-statement
returns-clause-statement c = is_initial c.phrases_are_exact.ensures.before

pub returns-clause-deep : goal.returns-clause-deep
returns-clause-deep c = deep_is

pub returns-clause-below : goal.returns-clause-below
returns-clause-below c = λ n front t e b. below_deep c.phrases_are_exact.ensures.expression c.phrases_are_exact.ensures.number c.phrases_are_exact.ensures.before t e n front b

pub returns-clause-starts : goal.returns-clause-starts
returns-clause-starts c = initial_starts
