use Rattle.vod_operand.specs.FoundLaws.{ifok}
use Rattle.vod_width.proofs.limit.own_number_within.Goals as goal

pub returns : goal.returns
returns c = ifok c.number_within.result c.number_within.ensures (λ p h y s. h y (c.in_ok-x.ensures y s.sees s.refits s.narrow))
