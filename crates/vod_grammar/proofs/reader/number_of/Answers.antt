use Rattle.std.proofs.Common.{◌≡◌, sym, ◌∙◌, ap}
use Rattle.vod_token.specs.Literal.{literal_of}
use Rattle.vod_token.specs.Nesting.{slice_of}
use Rattle.vod_expr.specs.Grammar.{number_from}
use Rattle.vod_expr_machine.specs.Numerals.{number_of}
use Rattle.vod_grammar.proofs.reader.number_of.Goals as goal

pub returns : goal.returns
unfolding number_of
returns c =
    let e : literal_of (slice_of c.args.source.now c.args.token) ≡ c.literal_of-literal.result =
    ap literal_of (sym c.text_of.ensures) ∙ c.one_literal.ensures c.text_of.result.now c.literal_of-literal.result c.literal_of-literal.ensures.stands in
    ap (number_from c.args.token.start) (sym e)
