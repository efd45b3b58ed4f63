use Rattle.std.proofs.Common.{◌<◌, [], arith}
use Rattle.vod_statement.specs.BelowLaws.{below_deep}
use Rattle.vod_statement.specs.DepthLaws.{deep_is}
use Rattle.vod_statement.specs.FirstTokens.{Expressions}
use Rattle.vod_statement.specs.StatementFormLaws.{statement_is, is_statement, statement_laws, statement_starts}
use Rattle.vod_statement.proofs.laws.statements_are_exact.Goals as goal

known : goal.After-none_begins → Expressions
known c = record {
  some = λ a d. let k : 0 < 0 = c.one_answer.ensures.some [] a 0 (c.answer_before.ensures.last [] a d) in omega (arith, k);
  none = c.none_begins.ensures.none;
}

pub returns-clause-laws : goal.returns-clause-laws
returns-clause-laws c = λ context size n. statement_laws c.phrases_are_exact.ensures.expression c.phrases_are_exact.ensures.before (known c) context size n

pub returns-clause-phrase : goal.returns-clause-phrase
returns-clause-phrase c = λ context size n. statement_is c.phrases_are_exact.ensures.expression c.phrases_are_exact.ensures.before (known c) context size n

pub returns-clause-statement : goal.returns-clause-statement
returns-clause-statement c = λ context size n. is_statement c.phrases_are_exact.ensures.expression c.phrases_are_exact.ensures.before (known c) context size n

pub returns-clause-deep : goal.returns-clause-deep
returns-clause-deep c = λ context size n. deep_is c.phrases_are_exact.ensures.expression c.phrases_are_exact.ensures.before (known c) context size n

pub returns-clause-below : goal.returns-clause-below
returns-clause-below c = λ context size n. below_deep c.phrases_are_exact.ensures.expression c.phrases_are_exact.ensures.before (known c) context size n

pub returns-clause-starts : goal.returns-clause-starts
returns-clause-starts c = statement_starts
