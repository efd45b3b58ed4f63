use Rattle.std.proofs.Common.{sym, ap, [], ◌∷◌}
use Rattle.vod_four.proofs.Known.{less_signed-known, less_signed-unknown}
use Rattle.vod_four.proofs.Four.lt_signed.Goals as goal

pub returns-in-Some : goal.returns-in-Some
returns-in-Some c =
    rw (c.of.ensures.value, c.bit.ensures, c.lt_signed.ensures, c.in-Some.ensures.0, c.in-Some.ensures.1)
    (ap (λ b. b ∷ []) (sym (less_signed-known c.args.self c.args.other c.in-Some.ensures.2)))

pub returns-in-None : goal.returns-in-None
returns-in-None c = rw c.unknown.ensures (ap (λ b. b ∷ []) (sym (less_signed-unknown c.args.self c.args.other c.in-None.ensures)))
