use Rattle.std.proofs.Common.{◌≡◌, ℕ, suc, ◌+◌, ◌-◌, List, length, sym, ◌∙◌, ap, arith}
use Rattle.vod_expr.specs.Grammar.{Lexeme}
use Rattle.vod_grammar.specs.Read.{repeat, repeat_within, behind}
use Rattle.vod_grammar.specs.State.{left}
use Rattle.vod_grammar.specs.Words.{is_word}
use Rattle.vod_grammar.specs.declared.word.Word.TheVariants.{Comma}
use Rattle.vod_grammar.specs.RoundLaws.{round_read}
use Rattle.vod_declaration.proofs.lists.further.Goals as goal

pub loop-init : goal.loop-init
unfolding repeat
loop-init g c =
    let e : c.remaining-end.result - 0 ≡ length (left c.args.reader c.args.at.now) = omega (arith, c.remaining-end.ensures) in
    ap (λ k. repeat_within k (is_word Comma) (behind Comma g.P.Phrase.reading) c.args.nodes.now (left c.args.reader c.args.at.now)) e

pub loop-preserved : goal.loop-preserved
loop-preserved g c =
    let ts : List Lexeme = left c.args.reader c.loop.at in
    let n : ℕ = c.remaining-end.result - (c.loop.counter + 1) in
    let e : c.remaining-end.result - c.loop.counter ≡ suc n = omega (arith, c.loop-test.true) in
    ap (λ v. repeat_within n (is_word Comma) (behind Comma g.P.Phrase.reading) v (left c.args.reader c.read.new.at)) c.in_ok-push.ensures.ok
    ∙ sym (round_read Comma g.P.Phrase.reading n c.loop.nodes ts c.in_ok-read.field-0 (left c.args.reader c.read.new.at) c.in-Some.ensures.0 (ap g.P.Phrase.reading (sym c.in-Some.ensures.2) ∙ c.in_ok-read.ensures))
    ∙ ap (λ k. repeat_within k (is_word Comma) (behind Comma g.P.Phrase.reading) c.loop.nodes ts) (sym e)
    ∙ c.loop.invariant
