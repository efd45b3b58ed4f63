-- One digit more, until none is left.
use Rattle.std.proofs.Common.{arith}
use Rattle.vod_vcd.specs.Places.{bit_there}
use Rattle.vod_vcd.proofs.Digits.{digits-next, digits-done}
use Rattle.vod_vcd.proofs.value.put_digits.Goals as goal

pub loop-left-preserved : goal.loop-left-preserved
loop-left-preserved c = record {
  within = omega (arith, c.loop-left.invariant.within);
  len = omega (arith, c.push.ensures.len, c.loop-left.invariant.len, c.loop-left-test.true);
  so_far = rw (c.push.ensures.items, c.digit_at.ensures)
      (digits-next _ _ (bit_there c.args.ones c.args.unks) c.loop-left.left (omega (arith, c.loop-left-test.true)) c.loop-left.invariant.so_far);
}

pub returns-clause-put : goal.returns-clause-put
returns-clause-put c =
    digits-done _ _ (bit_there c.args.ones c.args.unks) c.loop-left.left (omega (arith, c.loop-left-test.false)) c.loop-left.invariant.so_far
