use Rattle.std.proofs.Common.{sym}
use Rattle.vod_four.proofs.Known.{sum-known, sum-unknown}
use Rattle.vod_four.proofs.Four.add.Goals as goal

pub returns-in-Some : goal.returns-in-Some
returns-in-Some c =
    rw (c.of.ensures.value, c.add.ensures, c.in-Some.ensures.0, c.in-Some.ensures.1) (sym (sum-known c.args.self c.args.other c.in-Some.ensures.2))

pub returns-in-None : goal.returns-in-None
returns-in-None c = rw c.all_unknown.ensures (sym (sum-unknown c.args.self c.args.other c.in-None.ensures))
