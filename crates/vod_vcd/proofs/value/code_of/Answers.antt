-- Each digit is the next one of the code, and there are at most three.
use Rattle.std.proofs.Common.{◌∙◌, arith}
use Rattle.vod_vcd.proofs.Codes.{code-room, code-next, code-last}
use Rattle.vod_vcd.proofs.value.code_of.Goals as goal

pub push-requires : goal.push-requires
push-requires c = (omega arith, code-room _ _ _ c.requires c.loop-left.invariant.so_far)

pub loop-left-preserved : goal.loop-left-preserved
loop-left-preserved c = record {
  below = omega arith;
  so_far = rw c.push.ensures.items (code-next _ _ _ c.loop-left-test.true c.loop-left.invariant.so_far);
}

pub push-requires-2 : goal.push-requires-2
push-requires-2 c = (omega arith, code-room _ _ _ c.requires c.loop-left.invariant.so_far)

pub returns : goal.returns
returns c = c.push-2.ensures.items ∙ code-last _ _ _ c.loop-left-test.false c.loop-left.invariant.so_far
