use Rattle.std.proofs.Common.{◌≡◌, ◌≤◌, ◌^◌, ◌-◌, ap, ◌∙◌, subst, sym, arith}
use Rattle.vod_text.specs.Numeral.{IsBased, answer_of, based_of, based_value, based_len}
use Rattle.vod_text.proofs.Forms.{IsAnswer, based_answers, without_bound}
use Rattle.vod_text.proofs.read.based.Goals as goal

exact : (c : goal.After-answer) → c.answer.result ≡ based_of c.args.text.now c.args.base
exact c =
    c.answer.ensures ∙ ap (λ n. answer_of n (based_value c.from-base.result c.args.text.now) (2 ^ 128 - 1) c.args.text.now) c.based_len.ensures
    ∙ ap (λ b. answer_of (based_len b c.args.text.now) (based_value b c.args.text.now) (2 ^ 128 - 1) c.args.text.now) c.from-base.ensures

whole : (c : goal.After-answer) → IsAnswer (IsBased c.args.base) (based_value c.args.base c.args.text.now) (2 ^ 128 - 1) c.args.text.now c.answer.result
whole c =
    let some : 1 ≤ c.args.base = grind arith in
    subst (IsAnswer (IsBased c.args.base) (based_value c.args.base c.args.text.now) (2 ^ 128 - 1) c.args.text.now) (sym (exact c)) (based_answers c.args.text.now c.args.base some)

pub returns-clause-number : goal.returns-clause-number
returns-clause-number c = without_bound (IsBased c.args.base c.args.text.now) (based_value c.args.base c.args.text.now) (2 ^ 128 - 1) c.answer.result (whole c).number

pub returns-clause-accepts : goal.returns-clause-accepts
returns-clause-accepts c = λ h small. (whole c).accepts h (omega arith)

pub returns-clause-spelling : goal.returns-clause-spelling
returns-clause-spelling c = (whole c).spelling

pub returns-clause-range : goal.returns-clause-range
returns-clause-range c = ((λ e. let r = (whole c).range.0 e in (r.0, omega (arith, r.1))), (λ h. (whole c).range.1 (h.0, omega (arith, h.1))))
