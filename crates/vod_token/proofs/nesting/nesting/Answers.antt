use Rattle.std.proofs.Common.{arith}
use Rattle.vod_token.proofs.Nestings.{nesting_is}
use Rattle.vod_token.proofs.nesting.nesting.Goals as goal

pub returns : goal.returns
returns c = let is = nesting_is c.args.last c.args.outer.now in omega arith
