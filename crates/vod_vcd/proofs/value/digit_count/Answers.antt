-- A bit that falls isn't written.
use Rattle.std.proofs.Common.{◌≡◌, true, false, sym, ap, ◌∙◌, arith, map}
use Rattle.vod_vcd.specs.Values.{digit}
use Rattle.vod_vcd.specs.Places.{bit_there, upper_falls}
use Rattle.vod_vcd.proofs.Digits.{written-falls, written-stays}
use Rattle.vod_vcd.proofs.value.digit_count.Goals as goal

pub loop-left-init : goal.loop-left-init
loop-left-init c = record {
  within = c.used_digits-left.ensures.within;
  same = c.used_digits-left.ensures.same;
}

pub loop-left-preserved : goal.loop-left-preserved
loop-left-preserved c =
    let falls : upper_falls (bit_there c.args.ones c.args.unks) c.loop-left.left ≡ true = sym c.upper_falls.ensures ∙ c.loop-left-test.true in
    record {
      within = omega (arith, c.loop-left.invariant.within);
      same = sym (written-falls (bit_there c.args.ones c.args.unks) c.loop-left.left falls) ∙ c.loop-left.invariant.same;
    }

pub returns-clause-digits : goal.returns-clause-digits
returns-clause-digits c =
    let stays : upper_falls (bit_there c.args.ones c.args.unks) c.loop-left.left ≡ false = sym c.upper_falls.ensures ∙ c.loop-left-test.false in
    ap (map digit) (sym c.loop-left.invariant.same ∙ written-stays (bit_there c.args.ones c.args.unks) c.loop-left.left stays)
