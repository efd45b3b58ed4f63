use Rattle.vod_token.proofs.Literals.{one_literal}
use Rattle.vod_token.proofs.value.one_literal.Goals as goal

pub returns : goal.returns
returns c = one_literal
