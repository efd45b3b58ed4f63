use Rattle.std.proofs.Common.{refl, arith}
use Rattle.vod_thin_syntax.proofs.TokenLaws.{TokenLaws, falls_lie}
use Rattle.vod_thin_syntax.proofs.tokens.read_tokens.Goals as goal

pub returns-clause-lie : goal.returns-clause-lie
returns-clause-lie c =
    let laws : TokenLaws = record { one = c.one_token.ensures.one; some = c.one_token.ensures.some; dark = c.one_token.ensures.dark } in
    (falls_lie laws c.in_ok-cut.ensures c.args.source.now refl (omega arith)).lie

pub returns-clause-few : goal.returns-clause-few
returns-clause-few c =
    let laws : TokenLaws = record { one = c.one_token.ensures.one; some = c.one_token.ensures.some; dark = c.one_token.ensures.dark } in
    let few = (falls_lie laws c.in_ok-cut.ensures c.args.source.now refl (omega arith)).few in
    let short = c.requires in omega arith
