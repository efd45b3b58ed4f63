use Rattle.vod_design.proofs.Lawful.{lawful_front, lawful_next, lawful_push}
use Rattle.vod_design.proofs.vector.one_more_is_lawful.Goals as goal

pub returns : goal.returns
returns c ports vectors next =
    (λ h. (lawful_front ports vectors next h, lawful_next ports vectors next h), λ h. lawful_push ports vectors next h.0 h.1)
