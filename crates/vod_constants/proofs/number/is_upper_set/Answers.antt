use Rattle.std.proofs.Common.{◌≡◌, ◌-◌, length, sym, ◌∙◌, ap, arith}
use Rattle.vod_bits.specs.Fields.{width_back}
use Rattle.vod_operand.proofs.Numbers.{upper_slice, upper_any}
use Rattle.vod_constants.proofs.number.is_upper_set.Goals as goal

pub slice-requires-clause-inside : goal.slice-requires-clause-inside
slice-requires-clause-inside c =
    let n : length c.args.bits ≡ c.bits.inside.width = sym (ap length c.bits.view_is) ∙ width_back c.bits.inside.width c.bits.inside.word in
    omega (arith, n, c.bits.invariant.0)

pub returns : goal.returns
returns c =
    let n : length c.args.bits ≡ c.bits.inside.width = sym (ap length c.bits.view_is) ∙ width_back c.bits.inside.width c.bits.inside.word in
    upper_any c.any.result c.args.bits c.slice.result c.any.ensures (c.slice.ensures ∙ upper_slice c.args.bits (c.bits.inside.width - 1) (omega (arith, n, c.bits.invariant.0)))
