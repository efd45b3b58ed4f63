use Rattle.vod_grammar.specs.Form.{name_form, expression_form}
use Rattle.vod_grammar.specs.ListLaws.{commas_of, of_commas, exprs_are, are_exprs}
use Rattle.vod_grammar.specs.PartLaws.{separated_laws}
use Rattle.vod_grammar.proofs.laws.lists_are_exact.Goals as goal

pub returns-clause-name_laws : goal.returns-clause-name_laws
returns-clause-name_laws c = separated_laws name_form c.phrases_are_exact.ensures.name

pub returns-clause-names : goal.returns-clause-names
returns-clause-names c = commas_of name_form

pub returns-clause-of_names : goal.returns-clause-of_names
returns-clause-of_names c = of_commas name_form

pub returns-clause-expression_laws : goal.returns-clause-expression_laws
returns-clause-expression_laws c = separated_laws expression_form c.phrases_are_exact.ensures.expression

pub returns-clause-expressions : goal.returns-clause-expressions
returns-clause-expressions c = exprs_are

pub returns-clause-of_expressions : goal.returns-clause-of_expressions
returns-clause-of_expressions c = are_exprs c.phrases_are_exact.ensures.before
