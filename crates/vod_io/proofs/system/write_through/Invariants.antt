use Rattle.std.proofs.Common.{length}
use Rattle.vod_io.proofs.system.write_through.Given as goal

abbrev pub decreases-loop-rest : goal.decreases-loop-rest
decreases-loop-rest g l = length l.rest
