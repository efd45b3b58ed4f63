use Rattle.std.proofs.Common.{◌≡◌, ◌+◌, min, drop, length, sym, ◌∙◌, ap, arith}
use Rattle.vod_expr.specs.Answer.{expr_read}
use Rattle.vod_expr.specs.Grammar.{lexemes}
use Rattle.vod_grammar.specs.Read.{Got, tree_read}
use Rattle.vod_grammar.specs.State.{left}
use Rattle.vod_grammar.proofs.Lefts.{from_read, tree_left}
use Rattle.vod_grammar.proofs.reader.Reader.expression.Goals as goal

pub returns : goal.returns
returns c =
    let source = c.args.self.source.now in
    let tokens = c.args.self.tokens.now in
    let h = c.in_ok-expr.ensures.answer in
    let from : c.min-from.result ≡ min c.args.at.now (length tokens) = omega (arith, c.min-from.ensures) in
    ap (λ r. tree_read r (left c.args.self c.args.at.now)) (ap expr_read (sym (from_read source tokens c.args.at.now) ∙ ap (λ k. lexemes source (drop k tokens)) (sym from)) ∙ h.2)
    ∙ ap (Got c.in_ok-expr.expr) (sym (tree_left source tokens c.args.at.now h.0) ∙ ap (λ k. lexemes source (drop k tokens)) (ap (λ v. v + h.0) (sym from) ∙ sym h.1))
