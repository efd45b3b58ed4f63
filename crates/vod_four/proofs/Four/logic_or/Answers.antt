use Rattle.std.proofs.Common.{refl}
use Rattle.vod_bits.specs.Value.{zip_with}
use Rattle.vod_four.proofs.Planes.{truth-any}
use Rattle.vod_four.proofs.Four.logic_or.Goals as goal

pub returns : goal.returns
unfolding zip_with
returns c = rw (c.or.ensures, c.any.ensures, c.any-2.ensures, truth-any c.args.self, truth-any c.args.other) refl
