use Rattle.vod_expr.proofs.Answered.{last_by, before_by}
use Rattle.vod_expr.proofs.answer_before.Goals as goal

pub returns-clause-last : goal.returns-clause-last
returns-clause-last c = λ ts tree is. last_by c.one_literal.ensures ts tree is

pub returns-clause-before : goal.returns-clause-before
returns-clause-before c = λ ts us t tree is ends. before_by c.one_literal.ensures ts us t tree is ends
