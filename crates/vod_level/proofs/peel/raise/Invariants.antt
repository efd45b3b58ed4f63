use Rattle.std.proofs.Common.{◌≡◌, ℕ, ◌<◌, length, take, get_or}
use Rattle.vod_level.specs.Lists.{has}
use Rattle.vod_level.specs.Peel.{raised}
use Rattle.vod_level.proofs.peel.raise.Given as goal

abbrev pub invariant-loop-reader : goal.invariant-loop-reader
invariant-loop-reader l = (q : ℕ) → q < length l.levels → get_or l.levels q 0 ≡ raised (has (take l.reader-index l.readers) q) l.level (get_or l.fn.levels q 0)
