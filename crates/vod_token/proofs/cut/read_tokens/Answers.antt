use Rattle.std.proofs.Common.{refl, arith, sym, subst}
use Rattle.std.specs.Prelude.{All}
use Rattle.vod_token.proofs.Readings.{falls_tokens, tokens_lie}
use Rattle.vod_token.specs.Span.{LiesIn}
use Rattle.vod_token.proofs.cut.read_tokens.Goals as goal

pub check_nesting-requires : goal.check_nesting-requires
check_nesting-requires c =
    let lie = tokens_lie c.args.source.now 0 c.in_ok-tokens.tokens.items (falls_tokens c.in_ok-tokens.ensures.ok c.args.source.now refl (omega arith)) in
    subst (All (LiesIn c.args.source.now)) (sym c.deref.ensures.value) lie
