use Rattle.std.proofs.Common.{◌≡◌, ◌≤◌, ◌∷◌, drop}
use Rattle.std.specs.Prelude.{reverse}
use Rattle.vod_token.specs.Nesting.{nesting, too_deep, deep_at}
use Rattle.vod_token.specs.declared.TheConstants.{NESTING}
use Rattle.vod_token.proofs.nesting.first_too_deep.Given as goal

-- the nesting is within the limit so far, and what is too deep is among the tokens that are left
abbrev pub invariant-loop-token : goal.invariant-loop-token
invariant-loop-token l = record {
  within : nesting (l.last ∷ reverse l.outer.items) ≤ NESTING;
  left : too_deep l.source (l.last ∷ reverse l.outer.items) (drop l.token-index l.tokens) ≡ deep_at l.source l.tokens;
}
