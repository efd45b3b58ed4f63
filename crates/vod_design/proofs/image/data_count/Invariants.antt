use Rattle.std.proofs.Common.{◌≡◌, ◌+◌, ◌≤◌, length, drop}
use Rattle.vod_design.specs.Image.{data_inputs}
use Rattle.vod_design.proofs.image.data_count.Given as goal

abbrev pub invariant-loop-input : goal.invariant-loop-input
invariant-loop-input l = (l.count + length (data_inputs (drop l.input-index l.inputs)) ≡ length (data_inputs l.fn.inputs)) × (l.count ≤ l.input-index)
