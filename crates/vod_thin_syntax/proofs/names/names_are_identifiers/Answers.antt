use Rattle.vod_thin_syntax.proofs.NameLaws.{plain_names, short_names}
use Rattle.vod_thin_syntax.proofs.names.names_are_identifiers.Goals as goal

pub returns-clause-plain : goal.returns-clause-plain
returns-clause-plain c = plain_names

pub returns-clause-short : goal.returns-clause-short
returns-clause-short c = short_names
