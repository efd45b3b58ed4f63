-- The digits of the upper two bits tell whether the upper one falls.
use Rattle.std.proofs.Common.{◌≤◌, ◌∙◌, sym, arith}
use Rattle.vod_vcd.specs.Places.{bit_there}
use Rattle.vod_vcd.proofs.Digits.{upper_falls-more}
use Rattle.vod_vcd.proofs.value.upper_falls.Goals as goal

pub returns : goal.returns
returns c =
    let more : 2 ≤ c.args.left = omega (arith, c.if-left-lt2.false) in
    c.falls_before.ensures ∙ rw (c.digit_at.ensures, c.digit_at-2.ensures) (sym (upper_falls-more (bit_there c.args.ones c.args.unks) c.args.left more))
