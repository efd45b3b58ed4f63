use Rattle.std.proofs.Common.{◌≡◌, drop}
use Rattle.std.specs.List.{list_any}
use Rattle.vod_design.specs.Feeds.{is_read}
use Rattle.vod_cells.proofs.reached.reads_bit.Given as goal

abbrev pub invariant-loop-read : goal.invariant-loop-read
invariant-loop-read l = list_any (is_read (record { signal = l.fn.signal; bit = l.fn.place })) (drop l.read-index l.reads) ≡ list_any (is_read (record { signal = l.fn.signal; bit = l.fn.place })) l.fn.reads
