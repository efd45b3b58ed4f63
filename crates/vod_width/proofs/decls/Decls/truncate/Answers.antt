use Rattle.std.proofs.Common.{arith}
use Rattle.vod_width.proofs.Tables.{one_off}
use Rattle.vod_width.proofs.decls.Decls.truncate.Goals as goal

pub loop-self-preserved : goal.loop-self-preserved
loop-self-preserved c = one_off c.args.self.now c.loop-self.self c.remove_last.new.self c.args.count c.loop-self.invariant (omega arith) c.remove_last.ensures
