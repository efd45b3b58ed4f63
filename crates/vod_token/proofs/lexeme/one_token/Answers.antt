use Rattle.vod_token.proofs.Fronts.{one_front, no_token_empty, token_dark}
use Rattle.vod_token.proofs.lexeme.one_token.Goals as goal

pub returns-clause-one : goal.returns-clause-one
returns-clause-one c = one_front

pub returns-clause-some : goal.returns-clause-some
returns-clause-some c = no_token_empty

pub returns-clause-dark : goal.returns-clause-dark
returns-clause-dark c = token_dark
