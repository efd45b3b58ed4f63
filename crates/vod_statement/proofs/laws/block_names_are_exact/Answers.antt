use Rattle.vod_statement.specs.LabelLaws.{label_is, label_into, label_laws, label_shallow}
use Rattle.vod_statement.proofs.laws.block_names_are_exact.Goals as goal

pub returns-clause-laws : goal.returns-clause-laws
returns-clause-laws c = label_laws

pub returns-clause-phrase : goal.returns-clause-phrase
returns-clause-phrase c = label_is

pub returns-clause-label : goal.returns-clause-label
returns-clause-label c = label_into

pub returns-clause-shallow : goal.returns-clause-shallow
returns-clause-shallow c = label_shallow
