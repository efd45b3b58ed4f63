use Rattle.std.proofs.Common.{◌≡◌, ℕ, suc, ◌+◌, ◌-◌, List, length, sym, ◌∙◌, ap, arith}
use Rattle.vod_expr.specs.Grammar.{Lexeme}
use Rattle.vod_grammar.specs.Form.{behind}
use Rattle.vod_grammar.specs.Read.{repeat, repeat_within}
use Rattle.vod_grammar.specs.RoundLaws.{round_read}
use Rattle.vod_grammar.specs.State.{left}
use Rattle.vod_grammar.specs.Words.{is_word}
use Rattle.vod_grammar.specs.declared.word.Word.TheVariants.{Comma}
use Rattle.vod_statement.specs.LeftSideForm.{lval_form}
use Rattle.vod_statement.proofs.sides.+left_side.Goals as goal

pub more_left_sides-loop-init : goal.more_left_sides-loop-init
unfolding repeat
more_left_sides-loop-init t c =
    let e : c.remaining-end.result - 0 ≡ length (left c.args.reader c.args.at.now) = omega (arith, c.remaining-end.ensures) in
    ap (λ k. repeat_within k (is_word Comma) (behind Comma (lval_form c.args.depth)).read c.args.parts.now (left c.args.reader c.args.at.now)) e

pub more_left_sides-loop-preserved : goal.more_left_sides-loop-preserved
more_left_sides-loop-preserved t c =
    let ts : List Lexeme = left c.args.reader c.loop.at in
    let n : ℕ = c.remaining-end.result - (c.loop.counter + 1) in
    let e : c.remaining-end.result - c.loop.counter ≡ suc n = omega (arith, c.loop-test.true) in
    ap (λ v. repeat_within n (is_word Comma) (behind Comma (lval_form c.args.depth)).read v (left c.args.reader c.nested.new.at)) c.in_ok-push.ensures.ok
    ∙ sym (round_read Comma (lval_form c.args.depth).read n c.loop.parts ts c.in_ok-nested.field-0 (left c.args.reader c.nested.new.at) c.in-Some.ensures.0 (ap (lval_form c.args.depth).read (sym c.in-Some.ensures.2) ∙ c.in_ok-nested.ensures))
    ∙ ap (λ k. repeat_within k (is_word Comma) (behind Comma (lval_form c.args.depth)).read c.loop.parts ts) (sym e)
    ∙ c.loop.invariant
