use Rattle.std.proofs.Common.{◌≡◌, ℕ, suc, ◌+◌, ◌-◌, List, length, sym, ◌∙◌, ap, arith}
use Rattle.vod_tree.specs.declared.«module».Item.{Item}
use Rattle.vod_expr.specs.Grammar.{Lexeme}
use Rattle.vod_grammar.specs.Form.{Form}
use Rattle.vod_grammar.specs.Read.{repeat, repeat_within}
use Rattle.vod_grammar.specs.RoundLaws.{part_read}
use Rattle.vod_grammar.specs.State.{left}
use Rattle.vod_grammar.specs.Words.{is_other}
use Rattle.vod_grammar.specs.declared.word.Word.TheVariants.{Endmodule}
use Rattle.vod_parse.specs.ItemsForm.{item_form}
use Rattle.vod_parse.proofs.items.more_items.Goals as goal

pub loop-init : goal.loop-init
unfolding repeat
loop-init c =
    let f : Form Item = item_form (length c.args.reader.tokens.now) in
    let e : c.remaining-end.result - 0 ≡ length (left c.args.reader c.args.at.now) = omega (arith, c.remaining-end.ensures) in
    ap (λ k. repeat_within k (is_other Endmodule) f.read c.args.items.now (left c.args.reader c.args.at.now)) e

pub loop-preserved : goal.loop-preserved
loop-preserved c =
    let f : Form Item = item_form (length c.args.reader.tokens.now) in
    let ts : List Lexeme = left c.args.reader c.loop.at in
    let n : ℕ = c.remaining-end.result - (c.loop.counter + 1) in
    let e : c.remaining-end.result - c.loop.counter ≡ suc n = omega (arith, c.loop-test.true) in
    ap (λ v. repeat_within n (is_other Endmodule) f.read v (left c.args.reader c.item.new.at)) c.in_ok-push.ensures.ok
    ∙ sym (part_read (is_other Endmodule) f.read n c.loop.items ts c.in_ok-item.field-0 (left c.args.reader c.item.new.at) (sym c.is_other.ensures ∙ c.if-not-is_other.false) c.in_ok-item.ensures)
    ∙ ap (λ k. repeat_within k (is_other Endmodule) f.read c.loop.items ts) (sym e)
    ∙ c.loop.invariant
