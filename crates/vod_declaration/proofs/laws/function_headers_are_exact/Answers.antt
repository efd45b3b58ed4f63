use Rattle.vod_declaration.specs.FlatLaws.{expression_flat}
use Rattle.vod_declaration.specs.FunctionsLaws.{function_inputs_are, of_function_inputs, function_inputs_flat, function_declarations_are, of_function_declarations, function_declarations_flat}
use Rattle.vod_declaration.proofs.laws.function_headers_are_exact.Goals as goal

pub returns-clause-input_laws : goal.returns-clause-input_laws
returns-clause-input_laws c = (function_inputs_flat (expression_flat c.phrases_are_exact.ensures.expression)).laws

pub returns-clause-input_phrase : goal.returns-clause-input_phrase
returns-clause-input_phrase c = function_inputs_are

pub returns-clause-inputs : goal.returns-clause-inputs
returns-clause-inputs c = of_function_inputs c.phrases_are_exact.ensures.before

pub returns-clause-input_shallow : goal.returns-clause-input_shallow
returns-clause-input_shallow c = (function_inputs_flat (expression_flat c.phrases_are_exact.ensures.expression)).shallow

pub returns-clause-laws : goal.returns-clause-laws
returns-clause-laws c = (function_declarations_flat (expression_flat c.phrases_are_exact.ensures.expression)).laws

pub returns-clause-phrase : goal.returns-clause-phrase
returns-clause-phrase c = function_declarations_are

pub returns-clause-declarations : goal.returns-clause-declarations
returns-clause-declarations c = of_function_declarations c.phrases_are_exact.ensures.before

pub returns-clause-shallow : goal.returns-clause-shallow
returns-clause-shallow c = (function_declarations_flat (expression_flat c.phrases_are_exact.ensures.expression)).shallow
