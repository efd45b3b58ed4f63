use Rattle.std.proofs.Common.{sym}
use Rattle.vod_thin_store.proofs.Vectors.{last-at}
use Rattle.vod_thin_store.proofs.store.last_time.Goals as goal

pub returns-in-Some : goal.returns-in-Some
returns-in-Some c = last-at c.args.vectors.now c.in-Some.vector.now (sym c.in-Some.ensures.value)
