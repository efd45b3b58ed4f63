use Rattle.vod_declaration.specs.FlatLaws.{expression_flat}
use Rattle.vod_declaration.specs.PortListLaws.{port_list_are, of_port_list, port_list_flat}
use Rattle.vod_declaration.proofs.laws.ports_are_exact.Goals as goal

pub returns-clause-laws : goal.returns-clause-laws
returns-clause-laws c = (port_list_flat (expression_flat c.phrases_are_exact.ensures.expression)).laws

pub returns-clause-phrase : goal.returns-clause-phrase
returns-clause-phrase c = port_list_are

pub returns-clause-ports : goal.returns-clause-ports
returns-clause-ports c = of_port_list c.phrases_are_exact.ensures.before

pub returns-clause-shallow : goal.returns-clause-shallow
returns-clause-shallow c = (port_list_flat (expression_flat c.phrases_are_exact.ensures.expression)).shallow
