use Rattle.std.proofs.Common.{◌≡◌, ◌&&◌, drop}
use Rattle.vod_design.specs.Image.{data_widths, are_below}
use Rattle.vod_design.specs.Netlist.{width_in}
use Rattle.vod_design.proofs.image.data_fit.Given as goal

abbrev pub invariant-loop-input : goal.invariant-loop-input
invariant-loop-input l = (l.rest.fit && are_below l.rest.numbers.now (data_widths (width_in l.fn.signals) (drop l.input-index l.inputs))) ≡ are_below l.fn.numbers (data_widths (width_in l.fn.signals) l.fn.inputs)
