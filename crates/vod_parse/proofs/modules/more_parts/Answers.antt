use Rattle.std.proofs.Common.{◌≡◌, ℕ, suc, ◌+◌, ◌-◌, List, length, sym, ◌∙◌, ap, arith}
use Rattle.vod_tree.specs.declared.«module».SourceItem.{SourceItem}
use Rattle.vod_expr.specs.Grammar.{Lexeme}
use Rattle.vod_grammar.specs.Form.{Form}
use Rattle.vod_grammar.specs.Read.{repeat, repeat_within}
use Rattle.vod_grammar.specs.RoundLaws.{part_read}
use Rattle.vod_grammar.specs.State.{left}
use Rattle.vod_parse.specs.ModulesForm.{any, part_form}
use Rattle.vod_parse.proofs.modules.more_parts.Goals as goal

pub loop-init : goal.loop-init
unfolding repeat
loop-init c =
    let f : Form SourceItem = part_form (length c.args.reader.tokens.now) in
    let e : c.remaining-end.result - 0 ≡ length (left c.args.reader c.args.at.now) = omega (arith, c.remaining-end.ensures) in
    ap (λ k. repeat_within k any f.read c.args.parts.now (left c.args.reader c.args.at.now)) e

pub loop-preserved : goal.loop-preserved
loop-preserved c =
    let f : Form SourceItem = part_form (length c.args.reader.tokens.now) in
    let ts : List Lexeme = left c.args.reader c.loop.at in
    let n : ℕ = c.remaining-end.result - (c.loop.counter + 1) in
    let e : c.remaining-end.result - c.loop.counter ≡ suc n = omega (arith, c.loop-test.true) in
    ap (λ v. repeat_within n any f.read v (left c.args.reader c.part.new.at)) c.in_ok-push.ensures.ok
    ∙ sym (part_read any f.read n c.loop.parts ts c.in_ok-part.field-0 (left c.args.reader c.part.new.at) (sym c.is_left.ensures ∙ c.if-not-is_left.false) c.in_ok-part.ensures)
    ∙ ap (λ k. repeat_within k any f.read c.loop.parts ts) (sym e)
    ∙ c.loop.invariant
