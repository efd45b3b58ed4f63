use Rattle.vod_four.proofs.Planes.{truth-any}
use Rattle.vod_four.proofs.law.truth_is_any.Goals as goal

pub returns : goal.returns
returns c = λ a. truth-any a
