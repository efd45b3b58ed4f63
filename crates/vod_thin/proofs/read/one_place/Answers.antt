use Rattle.std.proofs.Common.{false, refl}
use Rattle.vod_thin.proofs.ReadLaws.{thin_unrefused, one_place}
use Rattle.vod_thin.proofs.read.one_place.Goals as goal

pub returns-clause-thin : goal.returns-clause-thin
returns-clause-thin c = λ source d place thin is. thin_unrefused c.one_sentence.ensures.one c.one_sentence.ensures.unbroken source d false place refl thin is

pub returns-clause-refused : goal.returns-clause-refused
returns-clause-refused c = one_place c.one_sentence.ensures.one c.one_sentence.ensures.unbroken c.one_sentence.ensures.refused_once
