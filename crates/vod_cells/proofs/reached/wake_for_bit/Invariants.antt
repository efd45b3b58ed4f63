use Rattle.std.proofs.Common.{◌≡◌, length, take}
use Rattle.std.specs.List.{list_any}
use Rattle.vod_design.specs.Feeds.{is_read}
use Rattle.vod_cells.specs.Listening.{passes_at, raised_at}
use Rattle.vod_cells.proofs.reached.wake_for_bit.Given as goal

abbrev pub invariant-loop-driver : goal.invariant-loop-driver
invariant-loop-driver l = record { size : length l.wake ≡ length l.initial.wake; raised : l.wake ≡ raised_at (passes_at (list_any (is_read (record { signal = l.fn.signal; bit = l.fn.place }))) l.fn.reads) l.initial.wake (take l.driver-index l.drivers) }
