use Rattle.std.proofs.Common.{refl}
use Rattle.vod_thin_syntax.proofs.TokenLaws.{TokenLaws, one_fall}
use Rattle.vod_thin_syntax.proofs.tokens.one_cut.Goals as goal

pub returns : goal.returns
returns c =
    let laws : TokenLaws = record { one = c.one_token.ensures.one; some = c.one_token.ensures.some; dark = c.one_token.ensures.dark } in
    λ source ts us stop other h g. one_fall laws h source us other refl g
