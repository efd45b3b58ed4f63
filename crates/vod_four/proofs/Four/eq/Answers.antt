use Rattle.std.proofs.Common.{ap, sym, [], ◌∷◌}
use Rattle.vod_four.proofs.Planes.{equal-fold}
use Rattle.vod_four.proofs.Four.eq.Goals as goal

pub returns : goal.returns
returns c = rw (c.all.ensures, c.not.ensures, c.xor.ensures) (ap (λ b. b ∷ []) (sym (equal-fold c.args.self c.args.other c.requires)))
