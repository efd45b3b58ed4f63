use Rattle.vod_thin.proofs.ReadLaws.{accepted, refused}
use Rattle.vod_thin.proofs.read.read_thin.Goals as goal

pub returns-clause-accepts : goal.returns-clause-accepts
returns-clause-accepts c = accepted c.one_sentence.ensures.one c.one_sentence.ensures.unbroken c.args.source.now c.args.more c.read.result c.read.ensures.thin c.read.ensures.refused

pub returns-clause-refuses : goal.returns-clause-refuses
returns-clause-refuses c = refused c.one_sentence.ensures.one c.one_sentence.ensures.unbroken c.one_sentence.ensures.refused_once c.args.source.now c.args.more c.read.result c.read.ensures.thin c.read.ensures.whole c.read.ensures.refused
