use Rattle.std.proofs.Common.{sym, ap, [], ◌∷◌}
use Rattle.vod_four.proofs.Known.{less-known, less-unknown}
use Rattle.vod_four.proofs.Four.lt.Goals as goal

pub returns-in-Some : goal.returns-in-Some
returns-in-Some c =
    rw (c.of.ensures.value, c.bit.ensures, c.lt.ensures, c.in-Some.ensures.0, c.in-Some.ensures.1)
    (ap (λ b. b ∷ []) (sym (less-known c.args.self c.args.other c.in-Some.ensures.2)))

pub returns-in-None : goal.returns-in-None
returns-in-None c = rw c.unknown.ensures (ap (λ b. b ∷ []) (sym (less-unknown c.args.self c.args.other c.in-None.ensures)))
