use Rattle.std.proofs.Common.{◌≤◌, length, arith}
use Rattle.std.proofs.lemmas.List.{length-map}
use Rattle.std.proofs.lemmas.List.Elements.{recursion_from_All}
use Rattle.vod_expr.specs.Grammar.{IsLexeme, lexeme, lexemes}
use Rattle.vod_grammar.specs.Laws.{AreLexemes}
use Rattle.vod_parse.specs.ReadLaws.{Known}
use Rattle.vod_parse.proofs.Sources.{ok_is, err_is, accepts_is, refuses_is}
use Rattle.vod_parse.proofs.source.read_source.Goals as goal

known : goal.After-read → Known
known c = record {
  laws = c.sources_are_exact.ensures.laws;
  phrase = c.sources_are_exact.ensures.phrase;
  source = c.sources_are_exact.ensures.source;
  ends = c.sources_are_exact.ensures.ends;
  deep = c.sources_are_exact.ensures.deep;
  below = c.sources_are_exact.ensures.below;
}

-- there are as many lexemes as tokens
few : (c : goal.After-read) → length (lexemes c.args.source.now c.args.tokens.now) ≤ length c.args.tokens.now
few c = let e = length-map c.args.tokens.now (lexeme c.args.source.now) in omega (arith, e)

own : (c : goal.After-read) → AreLexemes (lexemes c.args.source.now c.args.tokens.now)
own c = recursion_from_All IsLexeme (lexemes c.args.source.now c.args.tokens.now) (c.source_lexemes.ensures c.args.source.now c.args.tokens.now c.requires.tokens)

pub returns-clause-ok : goal.returns-clause-ok
returns-clause-ok c = ok_is (known c) (length c.args.tokens.now) (lexemes c.args.source.now c.args.tokens.now) (few c) (own c) c.read.result c.read.ensures.0 c.read.ensures.1

pub returns-clause-err : goal.returns-clause-err
returns-clause-err c = err_is (known c) (length c.args.tokens.now) (lexemes c.args.source.now c.args.tokens.now) (few c) (own c) c.read.result c.read.ensures.0 c.read.ensures.1

pub returns-clause-accepts : goal.returns-clause-accepts
returns-clause-accepts c = accepts_is (known c) (length c.args.tokens.now) (lexemes c.args.source.now c.args.tokens.now) (few c) (own c) c.read.result c.read.ensures.0 c.read.ensures.1

pub returns-clause-refuses : goal.returns-clause-refuses
returns-clause-refuses c = refuses_is (known c) (length c.args.tokens.now) (lexemes c.args.source.now c.args.tokens.now) (few c) (own c) c.read.result c.read.ensures.0 c.read.ensures.1
