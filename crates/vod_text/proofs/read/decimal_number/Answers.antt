use Rattle.std.proofs.Common.{◌<◌, length, arith}
use Rattle.vod_text.proofs.Values.{next_decimal}
use Rattle.vod_text.proofs.read.decimal_number.Goals as goal

pub overflow_mul-number : goal.overflow_mul-number
overflow_mul-number c =
    let lt : c.loop-digit.digit-index < length c.args.text.now = omega arith in
    let next = next_decimal _ _ _ c.requires lt c.loop-digit.invariant in
    let fits = next.fits in
    omega arith

pub overflow_sub-digit : goal.overflow_sub-digit
overflow_sub-digit c =
    let lt : c.loop-digit.digit-index < length c.args.text.now = omega arith in
    let next = next_decimal _ _ _ c.requires lt c.loop-digit.invariant in
    let low = next.low in
    omega arith

pub overflow_add-number : goal.overflow_add-number
overflow_add-number c =
    let lt : c.loop-digit.digit-index < length c.args.text.now = omega arith in
    let next = next_decimal _ _ _ c.requires lt c.loop-digit.invariant in
    let fits = next.fits in
    omega arith

pub loop-digit-preserved : goal.loop-digit-preserved
loop-digit-preserved c =
    let lt : c.loop-digit.digit-index < length c.args.text.now = omega arith in
    let next = next_decimal _ _ _ c.requires lt c.loop-digit.invariant in
    let value = next.value in
    rw c.from.ensures value
