use Rattle.std.proofs.Common.{◌≡◌, ℕ, ◌+◌, length, take, get_or}
use Rattle.vod_level.specs.Peel.{times, IsReady}
use Rattle.vod_level.proofs.peel.release.Given as goal

abbrev pub invariant-loop-reader : goal.invariant-loop-reader
invariant-loop-reader l = record {
  moved : (q : ℕ) → get_or l.left q 0 + times (take l.reader-index l.readers) q ≡ get_or l.fn.left q 0;
  is_ready : IsReady l.left l.ready.items;
  front : take (length l.fn.ready.items) l.ready.items ≡ l.fn.ready.items;
}
