use Rattle.std.proofs.Common.{◌≡◌, ap, ◌∙◌, subst, sym}
use Rattle.std.specs.Str.Parse.{digits_value}
use Rattle.vod_text.specs.Numeral.{IsDecimal, answer_of, decimal_of}
use Rattle.vod_text.proofs.Forms.{IsAnswer, decimal_answers}
use Rattle.vod_text.proofs.read.decimal.Goals as goal

exact : (c : goal.After-decimal_answer) → c.decimal_answer.result ≡ decimal_of c.args.text.now c.args.max
exact c = c.decimal_answer.ensures ∙ ap (λ n. answer_of n (digits_value 10 c.args.text.now) c.args.max c.args.text.now) c.digits_len.ensures

whole : (c : goal.After-decimal_answer) → IsAnswer IsDecimal (digits_value 10 c.args.text.now) c.args.max c.args.text.now c.decimal_answer.result
whole c = subst (IsAnswer IsDecimal (digits_value 10 c.args.text.now) c.args.max c.args.text.now) (sym (exact c)) (decimal_answers c.args.text.now c.args.max)

pub returns-clause-number : goal.returns-clause-number
returns-clause-number c = (whole c).number

pub returns-clause-accepts : goal.returns-clause-accepts
returns-clause-accepts c = (whole c).accepts

pub returns-clause-spelling : goal.returns-clause-spelling
returns-clause-spelling c = (whole c).spelling

pub returns-clause-range : goal.returns-clause-range
returns-clause-range c = (whole c).range
