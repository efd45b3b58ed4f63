use Rattle.std.proofs.Common.{◌∙◌, sym}
use Rattle.vod_token.proofs.Numbers.{token_number}
use Rattle.vod_token.proofs.lexeme.token_at.Goals as goal

pub returns-then-begins_number : goal.returns-then-begins_number
returns-then-begins_number c =
    c.number_at.ensures ∙ token_number c.args.at c.args.bytes.now c.in-Some.first (sym c.first.ensures.value ∙ sym c.in-Some.ensures) (sym c.is_letter.ensures ∙ c.if-is_letter.false) (sym c.begins_number.ensures ∙ c.if-begins_number.true)
