use Rattle.std.proofs.Common.{arith}
use Rattle.vod_level.proofs.Reaching.{reach_loop}
use Rattle.vod_level.proofs.cycle.reach.Goals as goal

pub loop-driver-preserved : goal.loop-driver-preserved
loop-driver-preserved c =
    let i = c.loop-driver.driver-index in
    let within = c.requires.inside i 0 c.loop-driver-test.true in
    let s = reach_loop c.args.drivers.now c.args.steps.now c.loop-driver.steps c.loop-driver.reached.items c.args.reached.now.items i c.args.count c.reach_one.new.steps c.reach_one.new.reached.items c.loop-driver-test.true (omega (arith, c.loop-driver.auto.steps)) c.requires.some
    c.in_ok-reach_one.ensures.steps c.in_ok-reach_one.ensures.reached c.loop-driver.invariant.moved c.loop-driver.invariant.is_reached c.loop-driver.invariant.front c.loop-driver.invariant.added in record {
      moved = s.moved;
      is_reached = s.is_reached;
      front = s.front;
      added = s.added;
    }
