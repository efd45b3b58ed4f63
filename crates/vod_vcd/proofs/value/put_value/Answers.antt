-- A value of one bit is its digit, one of more stands behind `b` and before a space.
use Rattle.std.proofs.Common.{◌≡◌, ◌++◌, length, sym, ap, ◌∙◌}
use Rattle.vod_four.specs.Fields.{four_width}
use Rattle.vod_vcd.specs.Values.{digits}
use Rattle.vod_vcd.proofs.Digits.{value_text-one, value_text-more}
use Rattle.vod_vcd.proofs.value.put_value.Goals as goal

pub returns-then-value-eq1-clause-put : goal.returns-then-value-eq1-clause-put
returns-then-value-eq1-clause-put c =
    let width : length c.args.value ≡ c.value.inside.width = sym (ap length c.value.view_is) ∙ four_width c.value.inside.width c.value.inside.ones c.value.inside.unks in
    let one : length c.args.value ≡ 1 = width ∙ c.if-value-eq1.true in
    rw (value_text-one c.args.value one) (c.put_digits.ensures.put ∙ ap (λ v. c.args.line.now.items ++ digits v) c.value.view_is)

pub returns-clause-put : goal.returns-clause-put
returns-clause-put c =
    let width : length c.args.value ≡ c.value.inside.width = sym (ap length c.value.view_is) ∙ four_width c.value.inside.width c.value.inside.ones c.value.inside.unks in
    rw (c.push-2.ensures.items, c.put_digits-2.ensures.put, c.push.ensures.items, c.value.view_is)
    (value_text-more c.args.line.now.items c.args.value (λ one. c.if-value-eq1.false (sym width ∙ one)))
