use Rattle.vod_directive.specs.DirectiveForm.{a_directive}
use Rattle.vod_directive.specs.DirectiveLaws.{directive_laws, phrase_is}
use Rattle.vod_directive.specs.MeaningLaws.{one_meaning, stands_for}
use Rattle.vod_directive.proofs.laws.directives_are_exact.Goals as goal

pub returns-clause-stands : goal.returns-clause-stands
returns-clause-stands c = stands_for

pub returns-clause-one : goal.returns-clause-one
returns-clause-one c = one_meaning

pub returns-clause-laws : goal.returns-clause-laws
returns-clause-laws c = directive_laws

pub returns-clause-phrase : goal.returns-clause-phrase
returns-clause-phrase c = phrase_is

pub returns-clause-directive : goal.returns-clause-directive
returns-clause-directive c = λ m t x b d. a_directive d
