use Rattle.vod_thin_syntax.proofs.Breaking.{accepted, refused}
use Rattle.vod_thin_syntax.proofs.read.read_sentence.Goals as goal

pub returns-clause-accepts : goal.returns-clause-accepts
returns-clause-accepts c = accepted c.one_cut.ensures c.args.source.now c.args.more c.read.result c.read.ensures.read c.read.ensures.fault

pub returns-clause-refuses : goal.returns-clause-refuses
returns-clause-refuses c = refused c.one_cut.ensures c.args.source.now c.args.more c.read.result c.read.ensures.read c.read.ensures.whole c.read.ensures.fault
