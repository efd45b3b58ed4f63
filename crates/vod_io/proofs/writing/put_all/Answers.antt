-- The bytes that the call took leave the rest, and go to those that were taken before.
use Rattle.std.proofs.Common.{arith}
use Rattle.vod_io.proofs.Puts.{Puts-front}
use Rattle.vod_io.proofs.writing.put_all.Goals as goal

pub loop-rest-preserved : goal.loop-rest-preserved
loop-rest-preserved g c = record {
  puts = Puts-front _ _ _ _ _ _ c.loop-rest.invariant.puts c.in_ok-count.ensures.taken;
  counted = omega (arith, c.in_ok-count.ensures.caused.later);
}
