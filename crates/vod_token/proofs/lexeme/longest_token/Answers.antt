use Rattle.std.proofs.Common.{◌∙◌, sym, subst}
use Rattle.vod_token.proofs.Fronts.{word_front, token_front, refused_front}
use Rattle.vod_token.specs.Front.{IsFront}
use Rattle.vod_token.proofs.lexeme.longest_token.Goals as goal

pub returns-then-begins_word-clause-some : goal.returns-then-begins_word-clause-some
returns-then-begins_word-clause-some c =
    subst (λ t. IsFront c.args.bytes.now t.0 t.1) (sym c.word.ensures) (word_front c.args.bytes.now (sym c.begins_word.ensures ∙ c.if-begins_word.true))

pub returns-in-Ok-clause-some : goal.returns-in-Ok-clause-some
returns-in-Ok-clause-some c = token_front c.args.bytes.now c.in-Ok.token.0 c.in-Ok.token.1 (sym c.in-Ok.ensures)

pub returns-in-Err-clause-none : goal.returns-in-Err-clause-none
returns-in-Err-clause-none c = refused_front c.args.bytes.now c.in-Err.field-0 (sym c.in-Err.ensures) (sym c.begins_word.ensures ∙ c.if-begins_word.false)
