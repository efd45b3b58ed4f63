use Rattle.vod_expr.proofs.Answered.{source_by}
use Rattle.vod_expr.proofs.source_lexemes.Goals as goal

pub returns : goal.returns
returns c = λ source ts h. source_by source ts h
