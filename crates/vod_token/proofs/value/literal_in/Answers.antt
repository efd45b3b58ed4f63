use Rattle.std.proofs.Common.{◌≡◌, ◌+◌, take, drop, ap, sym, subst, ◌∙◌, refl}
use Rattle.std.specs.List.{prefix_len}
use Rattle.vod_token.proofs.Literals.{quoted_number, unquoted_number, right_anywhere, found_anywhere}
use Rattle.vod_token.proofs.Numbers.{based_len-whole}
use Rattle.vod_token.specs.Form.{is_white}
use Rattle.vod_token.specs.Literal.{IsRight, found_literal}
use Rattle.vod_token.specs.Scan.{based_at}
use Rattle.vod_token.proofs.value.literal_in.Goals as goal

pub based_literal-requires-clause-size : goal.based_literal-requires-clause-size
based_literal-requires-clause-size c = based_len-whole 10 c.digits_len-size.result c.args.text.now (take c.digits_len-size.result c.args.text.now) c.digits_len-size.ensures.value refl

pub plain_literal-requires-clause-digits : goal.plain_literal-requires-clause-digits
plain_literal-requires-clause-digits c = based_len-whole 10 c.digits_len-size.result c.args.text.now (take c.digits_len-size.result c.args.text.now) c.digits_len-size.ensures.value refl

pub based_literal-requires-clause-right : goal.based_literal-requires-clause-right
based_literal-requires-clause-right c =
    let gap : c.run.result ≡ prefix_len is_white (drop c.digits_len-size.result c.args.text.now) = c.run.ensures.value ∙ ap (prefix_len is_white) c.rest_from.ensures in
    let found = quoted_number c.args.text.now c.digits_len-size.result c.run.result c.digits_len-size.ensures.value gap (sym c.byte_at.ensures.value ∙ c.if-byte_at-eq39.true) in
    let tail = sym c.rest_from-then-byte_at-eq39.ensures in
    right_anywhere (take c.digits_len-size.result c.args.text.now) (c.digits_len-size.result + c.run.result + 1) c.rest_from-then-byte_at-eq39.result.now
    (subst IsRight (found ∙ ap (based_at (take c.digits_len-size.result c.args.text.now) (c.digits_len-size.result + c.run.result + 1)) tail) c.requires)

pub plain_literal-requires-clause-right : goal.plain_literal-requires-clause-right
plain_literal-requires-clause-right c =
    let gap : c.run.result ≡ prefix_len is_white (drop c.digits_len-size.result c.args.text.now) = c.run.ensures.value ∙ ap (prefix_len is_white) c.rest_from.ensures in
    subst IsRight (unquoted_number c.args.text.now c.digits_len-size.result c.run.result c.digits_len-size.ensures.value gap (λ e. c.if-byte_at-eq39.false (c.byte_at.ensures.value ∙ e))) c.requires

pub returns-then-byte_at-eq39 : goal.returns-then-byte_at-eq39
returns-then-byte_at-eq39 c =
    let gap : c.run.result ≡ prefix_len is_white (drop c.digits_len-size.result c.args.text.now) = c.run.ensures.value ∙ ap (prefix_len is_white) c.rest_from.ensures in
    let found = quoted_number c.args.text.now c.digits_len-size.result c.run.result c.digits_len-size.ensures.value gap (sym c.byte_at.ensures.value ∙ c.if-byte_at-eq39.true) in
    let tail = sym c.rest_from-then-byte_at-eq39.ensures in
    c.based_literal.ensures
    ∙ found_anywhere (take c.digits_len-size.result c.args.text.now) (c.digits_len-size.result + c.run.result + 1) c.rest_from-then-byte_at-eq39.result.now
    ∙ sym (ap found_literal (found ∙ ap (based_at (take c.digits_len-size.result c.args.text.now) (c.digits_len-size.result + c.run.result + 1)) tail))

pub returns-else-byte_at-eq39 : goal.returns-else-byte_at-eq39
returns-else-byte_at-eq39 c =
    let gap : c.run.result ≡ prefix_len is_white (drop c.digits_len-size.result c.args.text.now) = c.run.ensures.value ∙ ap (prefix_len is_white) c.rest_from.ensures in
    c.plain_literal.ensures
    ∙ sym (ap found_literal (unquoted_number c.args.text.now c.digits_len-size.result c.run.result c.digits_len-size.ensures.value gap (λ e. c.if-byte_at-eq39.false (c.byte_at.ensures.value ∙ e))))
