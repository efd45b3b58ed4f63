use Rattle.vod_declaration.specs.FlatLaws.{expression_flat}
use Rattle.vod_declaration.specs.ItemsLaws.{declarations_are, is_declaration, declaration_starts, declaration_flat}
use Rattle.vod_declaration.proofs.laws.declarations_are_exact.Goals as goal

pub returns-clause-laws : goal.returns-clause-laws
returns-clause-laws c = (declaration_flat (expression_flat c.phrases_are_exact.ensures.expression)).laws

pub returns-clause-phrase : goal.returns-clause-phrase
returns-clause-phrase c = declarations_are

pub returns-clause-declaration : goal.returns-clause-declaration
returns-clause-declaration c = is_declaration c.phrases_are_exact.ensures.before

pub returns-clause-starts : goal.returns-clause-starts
returns-clause-starts c = declaration_starts

pub returns-clause-shallow : goal.returns-clause-shallow
returns-clause-shallow c = (declaration_flat (expression_flat c.phrases_are_exact.ensures.expression)).shallow
