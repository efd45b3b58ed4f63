use Rattle.std.proofs.Common.{refl}
use Rattle.vod_four.proofs.Planes.{truth-any}
use Rattle.vod_four.proofs.Four.logic_not.Goals as goal

pub returns : goal.returns
returns c = rw (c.not.ensures, c.any.ensures, truth-any c.args.self) refl
