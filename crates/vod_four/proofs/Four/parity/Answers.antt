use Rattle.std.proofs.Common.{sym, ap, [], ◌∷◌}
use Rattle.vod_four.proofs.Planes.{parity-unknown}
use Rattle.vod_four.proofs.Four.parity.Goals as goal

pub returns-in-None : goal.returns-in-None
returns-in-None c = rw c.unknown.ensures (ap (λ b. b ∷ []) (sym (parity-unknown c.args.self c.in-None.ensures)))
