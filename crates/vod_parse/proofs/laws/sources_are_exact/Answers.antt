use Rattle.vod_parse.specs.BelowLaws.{source_below}
use Rattle.vod_parse.specs.DepthLaws.{source_deep}
use Rattle.vod_parse.specs.Facts.{Facts}
use Rattle.vod_parse.specs.ModulesLaws.{source_is, is_source, source_ends, source_laws}
use Rattle.vod_parse.proofs.laws.sources_are_exact.Goals as goal

known : goal.After-directives_are_exact → Facts
known c = record {
  expression = c.phrases_are_exact.ensures.expression;
  read = c.phrases_are_exact.ensures.before;
  lval = c.left_sides_are_exact.ensures.laws;
  lval_are = c.left_sides_are_exact.ensures.phrase;
  of_lval = c.left_sides_are_exact.ensures.left_side;
  lval_deep = c.left_sides_are_exact.ensures.deep;
  statement = c.statements_are_exact.ensures.laws;
  statement_are = c.statements_are_exact.ensures.phrase;
  of_statement = c.statements_are_exact.ensures.statement;
  statement_deep = c.statements_are_exact.ensures.deep;
  statement_below = c.statements_are_exact.ensures.below;
  statement_starts = c.statements_are_exact.ensures.starts;
  initial = c.initial_statements_are_exact.ensures.laws;
  initial_are = c.initial_statements_are_exact.ensures.phrase;
  of_initial = λ n m ts x b e. c.initial_statements_are_exact.ensures.statement n m ts x b;
  initial_deep = c.initial_statements_are_exact.ensures.deep;
  initial_below = c.initial_statements_are_exact.ensures.below;
  range = c.ranges_are_exact.ensures.laws;
  range_are = c.ranges_are_exact.ensures.phrase;
  of_range = c.ranges_are_exact.ensures.range;
  range_flat = c.ranges_are_exact.ensures.shallow;
  inputs = c.function_headers_are_exact.ensures.input_laws;
  inputs_are = c.function_headers_are_exact.ensures.input_phrase;
  of_inputs = c.function_headers_are_exact.ensures.inputs;
  inputs_flat = c.function_headers_are_exact.ensures.input_shallow;
  locals = c.function_headers_are_exact.ensures.laws;
  locals_are = c.function_headers_are_exact.ensures.phrase;
  of_locals = c.function_headers_are_exact.ensures.declarations;
  locals_flat = c.function_headers_are_exact.ensures.shallow;
  declaration = c.declarations_are_exact.ensures.laws;
  declaration_are = c.declarations_are_exact.ensures.phrase;
  of_declaration = λ m ts x b e. c.declarations_are_exact.ensures.declaration m ts x b;
  declaration_starts = c.declarations_are_exact.ensures.starts;
  declaration_flat = c.declarations_are_exact.ensures.shallow;
  parameters = c.parameters_are_exact.ensures.laws;
  parameters_are = c.parameters_are_exact.ensures.phrase;
  of_parameters = λ m ts x b e. c.parameters_are_exact.ensures.parameters m ts x b;
  parameters_flat = c.parameters_are_exact.ensures.shallow;
  ports = c.ports_are_exact.ensures.laws;
  ports_are = c.ports_are_exact.ensures.phrase;
  of_ports = c.ports_are_exact.ensures.ports;
  ports_flat = c.ports_are_exact.ensures.shallow;
  gate = c.gates_are_exact.ensures.laws;
  gate_are = c.gates_are_exact.ensures.phrase;
  of_gate = λ m ts x b e. c.gates_are_exact.ensures.gate m ts x b;
  gate_flat = c.gates_are_exact.ensures.shallow;
  gate_starts = c.gates_are_exact.ensures.starts;
  gate_word = c.gates_are_exact.ensures.word;
  instances = c.instances_are_exact.ensures.laws;
  instances_are = c.instances_are_exact.ensures.phrase;
  of_instances = λ m ts x b e. c.instances_are_exact.ensures.instances m ts x b;
  instances_flat = c.instances_are_exact.ensures.shallow;
  directive = c.directives_are_exact.ensures.laws;
  directive_flat = c.directives_are_exact.ensures.shallow;
}

pub returns-clause-laws : goal.returns-clause-laws
returns-clause-laws c = source_laws (known c)

pub returns-clause-phrase : goal.returns-clause-phrase
returns-clause-phrase c = source_is (known c)

pub returns-clause-source : goal.returns-clause-source
returns-clause-source c = is_source (known c)

pub returns-clause-ends : goal.returns-clause-ends
returns-clause-ends c = source_ends (known c)

pub returns-clause-deep : goal.returns-clause-deep
returns-clause-deep c = source_deep (known c)

pub returns-clause-below : goal.returns-clause-below
returns-clause-below c = source_below (known c)
