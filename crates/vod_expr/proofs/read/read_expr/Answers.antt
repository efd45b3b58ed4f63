use Rattle.std.proofs.Common.{drop}
use Rattle.std.proofs.lemmas.List.Elements.{All-drop}
use Rattle.vod_token.specs.Span.{IsTokenOf}
use Rattle.vod_expr.specs.Grammar.{lexemes}
use Rattle.vod_expr.proofs.Taken.{ok_by, err_by, accepts_by, refuses_by}
use Rattle.vod_expr.proofs.read.read_expr.Goals as goal

pub returns-clause-ok : goal.returns-clause-ok
returns-clause-ok c =
    let source = c.args.source.now in
    let tokens = drop c.args.from c.args.tokens.now in
    let own = c.source_lexemes.ensures source tokens (All-drop (IsTokenOf source) c.args.from c.args.tokens.now c.requires.tokens) in
    ok_by (lexemes source tokens) c.args.from c.read_from.result (c.one_answer.ensures.right (lexemes source tokens) own) c.read_from.ensures

pub returns-clause-err : goal.returns-clause-err
returns-clause-err c =
    let source = c.args.source.now in
    let tokens = drop c.args.from c.args.tokens.now in
    let own = c.source_lexemes.ensures source tokens (All-drop (IsTokenOf source) c.args.from c.args.tokens.now c.requires.tokens) in
    err_by (lexemes source tokens) c.args.from c.read_from.result (c.one_answer.ensures.right (lexemes source tokens) own) c.read_from.ensures

pub returns-clause-accepts : goal.returns-clause-accepts
returns-clause-accepts c =
    accepts_by c.one_tree.ensures (lexemes c.args.source.now (drop c.args.from c.args.tokens.now)) c.args.from c.read_from.result (returns-clause-ok c) (returns-clause-err c)

pub returns-clause-refuses : goal.returns-clause-refuses
returns-clause-refuses c =
    refuses_by (lexemes c.args.source.now (drop c.args.from c.args.tokens.now)) c.args.from c.read_from.result (returns-clause-ok c) (returns-clause-err c)
