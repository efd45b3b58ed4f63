use Rattle.std.proofs.Common.{◌≡◌, ℕ, suc, ◌+◌, ◌-◌, List, length, sym, ◌∙◌, ap, arith}
use Rattle.vod_expr.specs.Grammar.{Lexeme}
use Rattle.vod_grammar.specs.Read.{repeat, repeat_within}
use Rattle.vod_grammar.specs.RoundLaws.{part_read}
use Rattle.vod_grammar.specs.State.{left}
use Rattle.vod_declaration.specs.FunctionsForm.{function_declaration, starts_function_declaration}
use Rattle.vod_declaration.proofs.functions.more_declarations.Goals as goal

pub loop-init : goal.loop-init
unfolding repeat
loop-init c =
    let e : c.remaining-end.result - 0 ≡ length (left c.args.reader c.args.at.now) = omega (arith, c.remaining-end.ensures) in
    ap (λ k. repeat_within k starts_function_declaration function_declaration.read c.args.declarations.now (left c.args.reader c.args.at.now)) e

pub loop-preserved : goal.loop-preserved
loop-preserved c =
    let ts : List Lexeme = left c.args.reader c.loop.at in
    let n : ℕ = c.remaining-end.result - (c.loop.counter + 1) in
    let e : c.remaining-end.result - c.loop.counter ≡ suc n = omega (arith, c.loop-test.true) in
    ap (λ v. repeat_within n starts_function_declaration function_declaration.read v (left c.args.reader c.declaration.new.at)) c.in_ok-push.ensures.ok
    ∙ sym (part_read starts_function_declaration function_declaration.read n c.loop.declarations ts c.in_ok-declaration.field-0 (left c.args.reader c.declaration.new.at) (sym c.is_declaration.ensures ∙ c.if-not-is_declaration.false) c.in_ok-declaration.ensures)
    ∙ ap (λ k. repeat_within k starts_function_declaration function_declaration.read c.loop.declarations ts) (sym e)
    ∙ c.loop.invariant
