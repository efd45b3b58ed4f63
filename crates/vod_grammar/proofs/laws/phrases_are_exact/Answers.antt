use Rattle.vod_grammar.specs.ExpressionLaws.{expression_laws, expression_last, expression_before, expression_ends_at}
use Rattle.vod_grammar.specs.Facts.{Facts}
use Rattle.vod_grammar.specs.NumberLaws.{number_laws}
use Rattle.vod_grammar.specs.TokenLaws.{word_laws, name_laws}
use Rattle.vod_grammar.proofs.laws.phrases_are_exact.Goals as goal

known : goal.After-one_literal → Facts
known c = record {
  right = c.one_answer.ensures.right;
  longest = c.one_answer.ensures.longest;
  place = c.one_answer.ensures.place;
  within = c.one_answer.ensures.within;
  some = c.one_answer.ensures.some;
  last = c.answer_before.ensures.last;
  before = c.answer_before.ensures.before;
  ahead = c.one_ahead.ensures.answer;
  literal = c.one_literal.ensures;
}

pub returns-clause-word : goal.returns-clause-word
returns-clause-word c = word_laws

pub returns-clause-name : goal.returns-clause-name
returns-clause-name c = name_laws

pub returns-clause-number : goal.returns-clause-number
returns-clause-number c = number_laws (known c)

pub returns-clause-expression : goal.returns-clause-expression
returns-clause-expression c = expression_laws (known c)

pub returns-clause-last : goal.returns-clause-last
returns-clause-last c = expression_last (known c)

pub returns-clause-before : goal.returns-clause-before
returns-clause-before c = λ m ts x w t d h e. expression_before (known c) m ts x t d (expression_ends_at w t h e)
