use Rattle.std.proofs.Common.{◌≡◌, ◌+◌, ◌≤◌, length, drop}
use Rattle.vod_design.specs.Image.{register_widths}
use Rattle.vod_design.proofs.image.register_count.Given as goal

abbrev pub invariant-loop-signal : goal.invariant-loop-signal
invariant-loop-signal l = (l.count + length (register_widths (drop l.signal-index l.signals)) ≡ length (register_widths l.fn.signals)) × (l.count ≤ l.signal-index)
