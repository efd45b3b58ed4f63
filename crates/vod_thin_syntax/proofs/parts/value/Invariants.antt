use Rattle.std.proofs.Common.{◌≡◌, ◌-◌, ◌^◌, ◌<◌, ◌≤◌, length}
use Rattle.std.specs.Prelude.{slice_range}
use Rattle.vod_thin_syntax.specs.Reader.{scan_read, value_read}
use Rattle.vod_thin_syntax.specs.State.{left}
use Rattle.vod_thin_syntax.specs.View.{marks_of}
use Rattle.vod_thin_syntax.proofs.parts.value.Given as goal

-- the tokens so far and what the scan makes of the others are what is read
abbrev pub invariant-loop-scan : goal.invariant-loop-scan
invariant-loop-scan l = record {
  from : l.from ≤ l.at;
  depth : l.scan.depth ≤ l.at;
  small : l.at < 2 ^ 32;
  reads : scan_read l.scan (marks_of l.reader.source.now (slice_range l.reader.tokens.now l.from l.at)) (left l.reader l.at) ≡ value_read (left l.reader l.fn.at);
}

abbrev pub decreases-loop-scan : goal.decreases-loop-scan
decreases-loop-scan l = length l.reader.tokens.now - l.at
