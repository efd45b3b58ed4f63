use Rattle.vod_thin_syntax.proofs.StateLemmas.{rest_left}
use Rattle.vod_thin_syntax.proofs.reader.Reader.pass.Goals as goal

pub returns-clause-left : goal.returns-clause-left
returns-clause-left c = rest_left c.args.self.source.now c.args.self.tokens.now c.args.at.now
