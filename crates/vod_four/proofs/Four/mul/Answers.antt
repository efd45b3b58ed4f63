use Rattle.std.proofs.Common.{sym}
use Rattle.vod_four.proofs.Known.{product-known, product-unknown}
use Rattle.vod_four.proofs.Four.mul.Goals as goal

pub returns-in-Some : goal.returns-in-Some
returns-in-Some c =
    rw (c.of.ensures.value, c.mul.ensures, c.in-Some.ensures.0, c.in-Some.ensures.1) (sym (product-known c.args.self c.args.other c.in-Some.ensures.2))

pub returns-in-None : goal.returns-in-None
returns-in-None c = rw c.all_unknown.ensures (sym (product-unknown c.args.self c.args.other c.in-None.ensures))
