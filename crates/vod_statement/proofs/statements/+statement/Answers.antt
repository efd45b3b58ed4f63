use Rattle.std.proofs.Common.{◌≡◌, ℕ, suc, ◌+◌, ◌-◌, List, length, sym, ◌∙◌, ap, arith}
use Rattle.vod_expr.specs.Grammar.{Lexeme}
use Rattle.vod_grammar.specs.Read.{repeat, repeat_within}
use Rattle.vod_grammar.specs.RoundLaws.{part_read}
use Rattle.vod_grammar.specs.State.{left}
use Rattle.vod_grammar.specs.Words.{is_other}
use Rattle.vod_grammar.specs.declared.word.Word.TheVariants.{End, Endcase}
use Rattle.vod_statement.specs.Reading.{statement_in}
use Rattle.vod_statement.specs.StatementForm.{item_form}
use Rattle.vod_statement.proofs.statements.+statement.Goals as goal

pub more_items-loop-init : goal.more_items-loop-init
unfolding repeat
more_items-loop-init t c =
    let e : c.remaining-end.result - 0 ≡ length (left c.args.reader c.args.at.now) = omega (arith, c.remaining-end.ensures) in
    ap (λ k. repeat_within k (is_other Endcase) (item_form (statement_in c.args.reader c.args.context c.args.depth)).read c.args.items.now (left c.args.reader c.args.at.now)) e

pub more_items-loop-preserved : goal.more_items-loop-preserved
more_items-loop-preserved t c =
    let ts : List Lexeme = left c.args.reader c.loop.at in
    let n : ℕ = c.remaining-end.result - (c.loop.counter + 1) in
    let e : c.remaining-end.result - c.loop.counter ≡ suc n = omega (arith, c.loop-test.true) in
    ap (λ v. repeat_within n (is_other Endcase) (item_form (statement_in c.args.reader c.args.context c.args.depth)).read v (left c.args.reader c.item.new.at)) c.in_ok-push.ensures.ok
    ∙ sym (part_read (is_other Endcase) (item_form (statement_in c.args.reader c.args.context c.args.depth)).read n c.loop.items ts c.in_ok-item.field-0 (left c.args.reader c.item.new.at) (sym c.is_other.ensures ∙ c.if-not-is_other.false) c.in_ok-item.ensures)
    ∙ ap (λ k. repeat_within k (is_other Endcase) (item_form (statement_in c.args.reader c.args.context c.args.depth)).read c.loop.items ts) (sym e)
    ∙ c.loop.invariant

pub more_statements-loop-init : goal.more_statements-loop-init
unfolding repeat
more_statements-loop-init t c =
    let e : c.remaining-end.result - 0 ≡ length (left c.args.reader c.args.at.now) = omega (arith, c.remaining-end.ensures) in
    ap (λ k. repeat_within k (is_other End) (statement_in c.args.reader c.args.context c.args.depth).read c.args.body.now (left c.args.reader c.args.at.now)) e

pub more_statements-loop-preserved : goal.more_statements-loop-preserved
more_statements-loop-preserved t c =
    let ts : List Lexeme = left c.args.reader c.loop.at in
    let n : ℕ = c.remaining-end.result - (c.loop.counter + 1) in
    let e : c.remaining-end.result - c.loop.counter ≡ suc n = omega (arith, c.loop-test.true) in
    ap (λ v. repeat_within n (is_other End) (statement_in c.args.reader c.args.context c.args.depth).read v (left c.args.reader c.nested.new.at)) c.in_ok-push.ensures.ok
    ∙ sym (part_read (is_other End) (statement_in c.args.reader c.args.context c.args.depth).read n c.loop.body ts c.in_ok-nested.field-0 (left c.args.reader c.nested.new.at) (sym c.is_other.ensures ∙ c.if-not-is_other.false) c.in_ok-nested.ensures)
    ∙ ap (λ k. repeat_within k (is_other End) (statement_in c.args.reader c.args.context c.args.depth).read c.loop.body ts) (sym e)
    ∙ c.loop.invariant
