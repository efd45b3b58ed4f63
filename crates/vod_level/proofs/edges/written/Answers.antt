use Rattle.vod_level.proofs.Writing.{written_step}
use Rattle.vod_level.proofs.edges.written.Goals as goal

pub loop-driver-preserved : goal.loop-driver-preserved
loop-driver-preserved c = written_step c.args.drivers.now c.loop-driver.driver c.index-drivers-driver.result c.loop-driver.list.items c.add_written.new.list.items c.index-drivers-driver.is c.loop-driver-test.true c.loop-driver.invariant c.in_ok-add_written.ensures
