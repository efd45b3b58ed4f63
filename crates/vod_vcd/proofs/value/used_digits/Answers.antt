-- A known value has no digits but 0 above its number.
use Rattle.std.proofs.Common.{◌≡◌, ◌-◌, ◌+◌, ◌≤◌, ◌<◌, ap, sym, ◌∙◌, arith}
use Rattle.std.proofs.lemmas.Nat.{leading_length}
use Rattle.vod_bits.specs.Value.{bits_from}
use Rattle.vod_four.specs.Fields.{four-places}
use Rattle.vod_vcd.specs.Values.{written_bits}
use Rattle.vod_vcd.specs.Places.{bit_there}
use Rattle.vod_vcd.proofs.Digits.{written-known}
use Rattle.vod_vcd.proofs.value.used_digits.Goals as goal

pub returns-then-unks-ne0-clause-same : goal.returns-then-unks-ne0-clause-same
returns-then-unks-ne0-clause-same c = ap written_bits (sym (four-places c.args.width c.args.ones c.args.unks))

pub returns-clause-same : goal.returns-clause-same
returns-clause-same c =
    let none : c.args.unks ≡ 0 = omega (arith, c.if-unks-ne0.false) in
    let within : c.min.result ≤ c.args.width = omega (arith, c.min.ensures) in
    let all : c.args.width - c.min.result + c.min.result ≡ c.args.width = omega (arith, within) in
    let t = leading_length 64 c.args.ones c.ranges.ones.fits in
    let some : 0 < c.args.width - c.min.result → 0 < c.min.result = λ left. omega (arith, left, c.min.ensures, c.max.ensures) in
    let above : 0 < c.args.width - c.min.result → t.0 ≤ c.min.result = λ left. omega (arith, left, t.1, c.min.ensures, c.max.ensures) in
    let same : written_bits (bits_from (bit_there c.args.ones 0) c.min.result) ≡ written_bits (bits_from (bit_there c.args.ones 0) c.args.width) =
    written-known c.args.ones t.0 c.min.result (c.args.width - c.min.result) t.2 some above ∙ ap (λ k. written_bits (bits_from (bit_there c.args.ones 0) k)) all in
    rw none (same ∙ ap written_bits (sym (four-places c.args.width c.args.ones 0)))
