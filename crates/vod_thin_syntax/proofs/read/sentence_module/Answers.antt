use Rattle.std.proofs.Common.{drop, sym, ◌∙◌, ap, subst}
use Rattle.vod_thin_syntax.proofs.GivesLaws.{refused_gives}
use Rattle.vod_thin_syntax.proofs.Breaking.{read_sentence, refused_broken, longer_broken, some_marks, no_marks}
use Rattle.vod_thin_syntax.specs.Outcome.{Broken}
use Rattle.vod_thin_syntax.specs.Reader.{Got, module_read}
use Rattle.vod_thin_syntax.specs.View.{marks_of, module_of}
use Rattle.vod_thin_syntax.proofs.read.sentence_module.Goals as goal

pub returns-then-at-tokens-clause-broken : goal.returns-then-at-tokens-clause-broken
returns-then-at-tokens-clause-broken c =
    let source = c.args.source.now in
    let tokens = c.args.tokens.now in
    let some = some_marks source tokens c.module.new.at c.if-at-tokens.true in
    subst (Broken (marks_of source tokens)) (sym some.2)
    (longer_broken (marks_of source tokens) (module_of source tokens c.in-Ok.module) some.0 some.1 (c.in-Ok.ensures.gives ∙ ap (Got (module_of source tokens c.in-Ok.module)) some.2))

pub returns-else-at-tokens-clause-read : goal.returns-else-at-tokens-clause-read
returns-else-at-tokens-clause-read c =
    let source = c.args.source.now in
    let tokens = c.args.tokens.now in
    read_sentence (marks_of source tokens) (module_of source tokens c.in-Ok.module)
    (c.in-Ok.ensures.gives ∙ ap (Got (module_of source tokens c.in-Ok.module)) (no_marks source tokens c.module.new.at c.if-at-tokens.false))

pub returns-in-Err-Refused-clause-broken : goal.returns-in-Err-Refused-clause-broken
returns-in-Err-Refused-clause-broken c =
    let source = c.args.source.now in
    let tokens = c.args.tokens.now in
    refused_broken (marks_of source tokens) (marks_of source (drop c.module.new.at tokens))
    (refused_gives (module_of source tokens) c.in-Err-Refused.field-0 (marks_of source (drop c.module.new.at tokens)) (module_read (marks_of source tokens)) c.in-Err-Refused.field-0-is c.in-Err-Refused.ensures.gives)
