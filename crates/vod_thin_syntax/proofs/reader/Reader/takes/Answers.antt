use Rattle.vod_thin_syntax.proofs.StateLemmas.{rest_left}
use Rattle.vod_thin_syntax.proofs.reader.Reader.takes.Goals as goal

pub returns-clause-goes : goal.returns-clause-goes
returns-clause-goes c = rest_left c.args.self.source.now c.args.self.tokens.now c.args.at.now
