use Rattle.std.proofs.Common.{◌+◌, drop, ap, sym, subst, ◌∙◌}
use Rattle.vod_expr.specs.Grammar.{lexemes}
use Rattle.vod_expr.specs.Reading.{Reads, answered}
use Rattle.vod_expr.proofs.Taken.{Answers, answers_by}
use Rattle.vod_expr.proofs.read.read_by.Goals as goal

pub returns : goal.returns
returns c =
    let source = c.args.source.now in
    let run = drop c.args.from c.args.tokens.now in
    let reads = subst (λ v. Reads (lexemes source v) c.in_ok-taken.taken c.take_run.new.reader) c.rest_from-run.ensures c.in_ok-taken.ensures in
    let given = c.answer.ensures ∙ ap (answered c.in_ok-tree.tree (c.args.from + c.in_ok-taken.taken)) (c.rest_from.ensures ∙ ap (drop c.in_ok-taken.taken) c.rest_from-run.ensures) in
    subst (Answers c.args.from (lexemes source run)) (sym given)
    (answers_by source run c.args.from c.in_ok-taken.taken c.take_run.new.reader reads c.in_ok-tree.tree c.in_ok-tree.ensures)
