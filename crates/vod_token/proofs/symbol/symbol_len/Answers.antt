use Rattle.std.proofs.Common.{◌≤◌, length, sym, subst}
use Rattle.vod_token.proofs.Numbers.{length-take-within}
use Rattle.vod_token.proofs.symbol.symbol_len.Goals as goal

pub returns-then-is_symbol-clause-within : goal.returns-then-is_symbol-clause-within
returns-then-is_symbol-clause-within c = subst (λ t. length t ≤ length c.args.bytes.now) (sym c.front-three.ensures) (length-take-within 3 c.args.bytes.now)

pub returns-then-is_symbol-3-clause-within : goal.returns-then-is_symbol-3-clause-within
returns-then-is_symbol-3-clause-within c = subst (λ t. length t ≤ length c.args.bytes.now) (sym c.front-one.ensures) (length-take-within 1 c.args.bytes.now)
