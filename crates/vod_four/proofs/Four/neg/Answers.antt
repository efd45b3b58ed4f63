use Rattle.std.proofs.Common.{sym}
use Rattle.vod_four.proofs.Known.{negative-known, negative-unknown}
use Rattle.vod_four.proofs.Four.neg.Goals as goal

pub returns-in-Some : goal.returns-in-Some
returns-in-Some c = rw (c.of.ensures.value, c.neg.ensures, c.in-Some.ensures.0) (sym (negative-known c.args.self c.in-Some.ensures.1))

pub returns-in-None : goal.returns-in-None
returns-in-None c = rw c.all_unknown.ensures (sym (negative-unknown c.args.self c.in-None.ensures))
