use Rattle.std.proofs.Common.{arith, ◌≡◌, ◌^◌, ◌<◌, ◌≤◌}
use Rattle.vod_text.specs.Numeral.{based_value}
use Rattle.vod_text.proofs.Values.{completes_over, completes_end}
use Rattle.vod_text.proofs.read.number.Goals as goal

pub returns-in_err-number : goal.returns-in_err-number
returns-in_err-number c =
    let digit = c.in-Some.ensures in
    let base : 1 ≤ c.args.base = omega arith in
    let over = completes_over c.args.base c.args.text.now c.loop-byte.byte-index c.loop-byte.number c.in-Some.digit (2 ^ 128) base c.loop-byte-test.true digit.0 digit.1 c.loop-byte.invariant.1 c.in_err-number.ensures in
    rw c.from_residual.ensures over

pub returns : goal.returns
returns c =
    let same : c.loop-byte.number ≡ based_value c.args.base c.args.text.now = completes_end c.args.base c.args.text.now c.loop-byte.byte-index c.loop-byte.number c.loop-byte-test.false c.loop-byte.invariant.1 in
    let small : c.loop-byte.number < 2 ^ 128 = c.loop-byte.invariant.0 in
    (omega arith, same)
