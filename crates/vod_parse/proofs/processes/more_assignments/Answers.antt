use Rattle.std.proofs.Common.{◌≡◌, ℕ, suc, ◌+◌, ◌-◌, List, length, sym, ◌∙◌, ap, arith}
use Rattle.vod_tree.specs.declared.statement.Assignment.{Assignment}
use Rattle.vod_expr.specs.Grammar.{Lexeme}
use Rattle.vod_grammar.specs.Form.{Form, behind}
use Rattle.vod_grammar.specs.Read.{repeat, repeat_within}
use Rattle.vod_grammar.specs.RoundLaws.{round_read}
use Rattle.vod_grammar.specs.State.{left}
use Rattle.vod_grammar.specs.Words.{is_word}
use Rattle.vod_grammar.specs.declared.word.Word.TheVariants.{Comma}
use Rattle.vod_parse.specs.ProcessesForm.{assignment_form}
use Rattle.vod_parse.proofs.processes.more_assignments.Goals as goal

pub loop-init : goal.loop-init
unfolding repeat
loop-init c =
    let f : Form Assignment = assignment_form (length c.args.reader.tokens.now) in
    let e : c.remaining-end.result - 0 ≡ length (left c.args.reader c.args.at.now) = omega (arith, c.remaining-end.ensures) in
    ap (λ k. repeat_within k (is_word Comma) (behind Comma f).read c.args.assignments.now (left c.args.reader c.args.at.now)) e

pub loop-preserved : goal.loop-preserved
loop-preserved c =
    let f : Form Assignment = assignment_form (length c.args.reader.tokens.now) in
    let ts : List Lexeme = left c.args.reader c.loop.at in
    let n : ℕ = c.remaining-end.result - (c.loop.counter + 1) in
    let e : c.remaining-end.result - c.loop.counter ≡ suc n = omega (arith, c.loop-test.true) in
    ap (λ v. repeat_within n (is_word Comma) (behind Comma f).read v (left c.args.reader c.assignment.new.at)) c.in_ok-push.ensures.ok
    ∙ sym (round_read Comma f.read n c.loop.assignments ts c.in_ok-assignment.field-0 (left c.args.reader c.assignment.new.at) c.in-Some.ensures.0 (ap f.read (sym c.in-Some.ensures.2) ∙ c.in_ok-assignment.ensures))
    ∙ ap (λ k. repeat_within k (is_word Comma) (behind Comma f).read c.loop.assignments ts) (sym e)
    ∙ c.loop.invariant
