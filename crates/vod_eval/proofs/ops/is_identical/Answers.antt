use Rattle.vod_eval.proofs.Cuts.{same_is}
use Rattle.vod_eval.proofs.ops.is_identical.Goals as goal

pub returns : goal.returns
returns g c = rw (← c.at_size-one.ensures, ← c.at_size-other.ensures) (same_is c.identical.result (g.V.Value.bits c.at_size-one.result) (g.V.Value.bits c.at_size-other.result) c.identical.ensures)
