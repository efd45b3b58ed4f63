use Rattle.std.proofs.Common.{◌-◌, ◌≤◌, ◌++◌, List, Option, length, drop}
use Rattle.vod_token.specs.Cut.{Falls}
use Rattle.vod_token.specs.declared.LexFault.{LexFault}
use Rattle.vod_token.specs.declared.Token.{Token}
use Rattle.vod_token.proofs.cut.cut.Given as goal

-- what the rest falls into, the source falls into behind the tokens so far
abbrev pub invariant-loop-at : goal.invariant-loop-at
invariant-loop-at l = record {
  within : l.at ≤ length l.source;
  reads : (ts : List Token) (fault : Option LexFault) → Falls l.at (drop l.at l.source) ts fault → Falls 0 l.source (l.tokens.items ++ ts) fault;
}

abbrev pub decreases-loop-at : goal.decreases-loop-at
decreases-loop-at l = length l.source - l.at
