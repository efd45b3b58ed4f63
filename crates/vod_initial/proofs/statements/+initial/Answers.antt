use Rattle.std.proofs.Common.{◌≡◌, ℕ, suc, ◌+◌, ◌-◌, List, length, sym, ◌∙◌, ap, arith}
use Rattle.vod_expr.specs.Grammar.{Lexeme}
use Rattle.vod_grammar.specs.Read.{Got, repeat, repeat_within}
use Rattle.vod_grammar.specs.RoundLaws.{part_read}
use Rattle.vod_grammar.specs.State.{left}
use Rattle.vod_grammar.specs.Words.{is_other}
use Rattle.vod_grammar.specs.declared.word.Word.TheVariants.{End}
use Rattle.vod_initial.specs.Initial.{initial}
use Rattle.vod_initial.specs.InitialForm.{initial_form}
use Rattle.vod_initial.proofs.Nested.{nested_read}
use Rattle.vod_initial.proofs.statements.+initial.Goals as goal

pub nested-returns : goal.nested-returns
nested-returns t c =
    let e : c.args.depth ≡ suc (c.args.depth - 1) = omega (arith, c.if-depth-eq0.false) in
    nested_read c.args.depth (c.args.depth - 1) (left c.args.reader c.args.at.now) c.in_ok-kind.kind (left c.args.reader c.alternative.new.at) e c.in_ok-kind.ensures
    ∙ ap (λ place. Got (initial place c.in_ok-kind.kind) (left c.args.reader c.alternative.new.at)) (sym c.place-place.ensures)

pub more_statements-loop-init : goal.more_statements-loop-init
unfolding repeat
more_statements-loop-init t c =
    let e : c.remaining-end.result - 0 ≡ length (left c.args.reader c.args.at.now) = omega (arith, c.remaining-end.ensures) in
    ap (λ k. repeat_within k (is_other End) (initial_form c.args.depth).read c.args.body.now (left c.args.reader c.args.at.now)) e

pub more_statements-loop-preserved : goal.more_statements-loop-preserved
more_statements-loop-preserved t c =
    let ts : List Lexeme = left c.args.reader c.loop.at in
    let n : ℕ = c.remaining-end.result - (c.loop.counter + 1) in
    let e : c.remaining-end.result - c.loop.counter ≡ suc n = omega (arith, c.loop-test.true) in
    ap (λ v. repeat_within n (is_other End) (initial_form c.args.depth).read v (left c.args.reader c.nested.new.at)) c.in_ok-push.ensures.ok
    ∙ sym (part_read (is_other End) (initial_form c.args.depth).read n c.loop.body ts c.in_ok-nested.field-0 (left c.args.reader c.nested.new.at) (sym c.is_other.ensures ∙ c.if-not-is_other.false) c.in_ok-nested.ensures)
    ∙ ap (λ k. repeat_within k (is_other End) (initial_form c.args.depth).read c.loop.body ts) (sym e)
    ∙ c.loop.invariant
