use Rattle.std.proofs.Common.{◌-◌, ◌≤◌, ◌++◌, ℕ, List, Option, length, drop}
use Rattle.vod_token.specs.declared.Token.{Token}
use Rattle.vod_thin_syntax.specs.Tokens.{Falls}
use Rattle.vod_thin_syntax.proofs.tokens.cut.Given as goal

-- what the rest falls into, the source falls into behind the tokens so far
abbrev pub invariant-loop-at : goal.invariant-loop-at
invariant-loop-at l = record {
  within : l.at ≤ length l.source;
  reads : (ts : List Token) (stop : Option ℕ) → Falls l.at (drop l.at l.source) ts stop → Falls 0 l.source (l.list.items ++ ts) stop;
}

abbrev pub decreases-loop-at : goal.decreases-loop-at
decreases-loop-at l = length l.source - l.at
