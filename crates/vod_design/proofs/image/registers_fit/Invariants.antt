use Rattle.std.proofs.Common.{◌≡◌, ◌&&◌, drop}
use Rattle.vod_design.specs.Image.{register_widths, are_below}
use Rattle.vod_design.proofs.image.registers_fit.Given as goal

abbrev pub invariant-loop-signal : goal.invariant-loop-signal
invariant-loop-signal l = (l.rest.fit && are_below l.rest.numbers.now (register_widths (drop l.signal-index l.signals))) ≡ are_below l.fn.numbers (register_widths l.fn.signals)
