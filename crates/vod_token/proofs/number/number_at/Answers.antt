use Rattle.std.proofs.Common.{◌≡◌, ◌+◌, take, drop, ap, sym, ◌∙◌, refl}
use Rattle.std.specs.List.{prefix_len}
use Rattle.vod_token.proofs.Numbers.{based_len-whole, number_based, number_plain}
use Rattle.vod_token.specs.Form.{is_white}
use Rattle.vod_token.specs.Scan.{number_judged, based_at}
use Rattle.vod_token.proofs.number.number_at.Goals as goal

pub based_number-requires-clause-size : goal.based_number-requires-clause-size
based_number-requires-clause-size c = based_len-whole 10 c.digits_len-size.result c.args.bytes.now (take c.digits_len-size.result c.args.bytes.now) c.digits_len-size.ensures.value refl

pub plain-requires : goal.plain-requires
plain-requires c = based_len-whole 10 c.digits_len-size.result c.args.bytes.now (take c.digits_len-size.result c.args.bytes.now) c.digits_len-size.ensures.value refl

pub returns-then-byte_at-eq39 : goal.returns-then-byte_at-eq39
returns-then-byte_at-eq39 c =
    let gap : c.run.result ≡ prefix_len is_white (drop c.digits_len-size.result c.args.bytes.now) = c.run.ensures.value ∙ ap (prefix_len is_white) c.rest_from.ensures in
    let quote = sym c.byte_at.ensures.value ∙ c.if-byte_at-eq39.true in
    c.based_number.ensures
    ∙ ap (λ tail. number_judged c.args.at (based_at (take c.digits_len-size.result c.args.bytes.now) (c.digits_len-size.result + c.run.result + 1) tail)) c.rest_from-then-byte_at-eq39.ensures
    ∙ number_based c.args.bytes.now c.args.at c.digits_len-size.result c.run.result c.digits_len-size.ensures.value gap quote

pub returns-else-byte_at-eq39 : goal.returns-else-byte_at-eq39
returns-else-byte_at-eq39 c =
    let gap : c.run.result ≡ prefix_len is_white (drop c.digits_len-size.result c.args.bytes.now) = c.run.ensures.value ∙ ap (prefix_len is_white) c.rest_from.ensures in
    c.plain.ensures ∙ number_plain c.args.bytes.now c.args.at c.digits_len-size.result c.run.result c.digits_len-size.ensures.value gap (λ e. c.if-byte_at-eq39.false (c.byte_at.ensures.value ∙ e))
