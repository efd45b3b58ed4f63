use Rattle.vod_declaration.specs.FlatLaws.{expression_flat}
use Rattle.vod_declaration.specs.ParametersLaws.{parameter_ports_are, of_parameter_ports, parameter_ports_flat}
use Rattle.vod_declaration.proofs.laws.parameters_are_exact.Goals as goal

pub returns-clause-laws : goal.returns-clause-laws
returns-clause-laws c = (parameter_ports_flat (expression_flat c.phrases_are_exact.ensures.expression)).laws

pub returns-clause-phrase : goal.returns-clause-phrase
returns-clause-phrase c = parameter_ports_are

pub returns-clause-parameters : goal.returns-clause-parameters
returns-clause-parameters c = of_parameter_ports c.phrases_are_exact.ensures.before

pub returns-clause-shallow : goal.returns-clause-shallow
returns-clause-shallow c = (parameter_ports_flat (expression_flat c.phrases_are_exact.ensures.expression)).shallow
