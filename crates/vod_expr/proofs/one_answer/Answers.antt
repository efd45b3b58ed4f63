use Rattle.vod_expr.proofs.Answered.{answer_by, longest_by, place_by, within_by, some_by}
use Rattle.vod_expr.proofs.one_answer.Goals as goal

pub returns-clause-right : goal.returns-clause-right
returns-clause-right c = λ ts all. answer_by c.one_literal.ensures ts all

pub returns-clause-longest : goal.returns-clause-longest
returns-clause-longest c = λ ts all. longest_by c.one_literal.ensures ts all

pub returns-clause-place : goal.returns-clause-place
returns-clause-place c = λ ts. place_by ts

pub returns-clause-within : goal.returns-clause-within
returns-clause-within c = λ ts. within_by ts

pub returns-clause-some : goal.returns-clause-some
returns-clause-some c = λ ts tree n h. some_by ts tree n h
