-- So far all bytes that came are held, at most one past the limit.
use Rattle.std.proofs.Common.{◌≡◌, ◌+◌, ◌≤◌, ◌-◌, vec_len}
use Rattle.vod_io.specs.Told.{put_back}
use Rattle.vod_io.proofs.reading.fill.Given as goal

abbrev pub invariant-loop-piece : goal.invariant-loop-piece
invariant-loop-piece g l = record {
  gone : g.S.Source.left l.initial.source ≡ put_back l.bytes.items (g.S.Source.left l.source);
  counted : g.S.Source.faults l.initial.source ≤ g.S.Source.faults l.source;
  few : vec_len l.bytes ≤ l.limit + 1;
}

abbrev pub decreases-loop-piece : goal.decreases-loop-piece
decreases-loop-piece g l = l.limit + 1 - vec_len l.bytes
