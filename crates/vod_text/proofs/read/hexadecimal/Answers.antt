use Rattle.std.proofs.Common.{◌≡◌, ◌^◌, ◌-◌, ap, ◌∙◌, subst, sym}
use Rattle.std.specs.Str.Parse.{digits_value}
use Rattle.vod_text.specs.Numeral.{IsHexadecimal, answer_of, hexadecimal_of, based_value}
use Rattle.vod_text.proofs.Forms.{IsAnswer, hexadecimal_answers, hexadecimal_is, hexadecimal_fits, without_bound}
use Rattle.vod_text.proofs.read.hexadecimal.Goals as goal

exact : (c : goal.After-answer) → c.answer.result ≡ hexadecimal_of c.args.text.now
exact c = (c.answer.ensures ∙ ap (λ n. answer_of n (based_value 16 c.args.text.now) (2 ^ 128 - 1) c.args.text.now) c.digits_len.ensures) ∙ hexadecimal_is c.args.text.now

whole : (c : goal.After-answer) → IsAnswer IsHexadecimal (digits_value 16 c.args.text.now) (2 ^ 128 - 1) c.args.text.now c.answer.result
whole c = subst (IsAnswer IsHexadecimal (digits_value 16 c.args.text.now) (2 ^ 128 - 1) c.args.text.now) (sym (exact c)) (hexadecimal_answers c.args.text.now)

pub returns-clause-number : goal.returns-clause-number
returns-clause-number c = without_bound (IsHexadecimal c.args.text.now) (digits_value 16 c.args.text.now) (2 ^ 128 - 1) c.answer.result (whole c).number

pub returns-clause-accepts : goal.returns-clause-accepts
returns-clause-accepts c = λ h. (whole c).accepts h (hexadecimal_fits c.args.text.now h)

pub returns-clause-spelling : goal.returns-clause-spelling
returns-clause-spelling c = (whole c).spelling

pub returns-clause-exact : goal.returns-clause-exact
returns-clause-exact c = exact c
