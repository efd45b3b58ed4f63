use Rattle.vod_expr.proofs.Answered.{ahead_len_by, ahead_by}
use Rattle.vod_expr.proofs.one_ahead.Goals as goal

pub returns-clause-len : goal.returns-clause-len
returns-clause-len c = λ front rest other t h. ahead_len_by front rest other t h

pub returns-clause-answer : goal.returns-clause-answer
returns-clause-answer c = λ front rest other t h. ahead_by front rest other t h
