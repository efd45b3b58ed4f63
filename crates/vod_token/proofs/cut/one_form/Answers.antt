use Rattle.vod_token.proofs.Lexemes.{one_form}
use Rattle.vod_token.proofs.cut.one_form.Goals as goal

pub returns : goal.returns
returns c = one_form
