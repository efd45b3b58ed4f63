use Rattle.vod_thin_syntax.proofs.Breaking.{one_reading, unbroken, refused_once}
use Rattle.vod_thin_syntax.proofs.read.one_sentence.Goals as goal

pub returns-clause-one : goal.returns-clause-one
returns-clause-one c = one_reading c.one_cut.ensures

pub returns-clause-unbroken : goal.returns-clause-unbroken
returns-clause-unbroken c = unbroken c.one_cut.ensures

pub returns-clause-refused_once : goal.returns-clause-refused_once
returns-clause-refused_once c = refused_once
