use Rattle.std.proofs.Common.{sym, ◌∙◌}
use Rattle.vod_thin_syntax.proofs.TokenLaws.{form_right, other_token, continues}
use Rattle.vod_thin_syntax.proofs.tokens.next_token.Goals as goal

pub returns-in_default-clause-none : goal.returns-in_default-clause-none
returns-in_default-clause-none c = λ text rest form e holds of. c.in_default.ensures.none text rest form e holds (form_right c.one_form.ensures text form holds.spelled of)

pub returns-then-not-is_of_form-clause-none : goal.returns-then-not-is_of_form-clause-none
returns-then-not-is_of_form-clause-none c = other_token c.one_token.ensures.one c.args.rest.now c.in-Some.kind c.in-Some.len c.in-Some.ensures.some (sym c.is_of_form.ensures ∙ c.if-not-is_of_form.true)

pub returns-clause-some : goal.returns-clause-some
returns-clause-some c = continues c.args.at c.args.rest.now c.in-Some.kind c.in-Some.len c.in-Some.ensures.some (sym c.is_of_form.ensures ∙ c.if-not-is_of_form.false)
