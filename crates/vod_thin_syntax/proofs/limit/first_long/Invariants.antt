use Rattle.std.proofs.Common.{◌≡◌, drop}
use Rattle.vod_thin_syntax.specs.Limit.{first_long}
use Rattle.vod_thin_syntax.proofs.limit.first_long.Given as goal

-- the first long name is among the tokens that are left
abbrev pub invariant-loop-token : goal.invariant-loop-token
invariant-loop-token l = first_long (drop l.token-index l.tokens) ≡ first_long l.tokens
