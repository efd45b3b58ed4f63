use Rattle.std.proofs.Common.{◌≡◌, ◌+◌, ◌≤◌, length, drop}
use Rattle.vod_design.specs.Image.{edge_inputs}
use Rattle.vod_design.proofs.image.edge_count.Given as goal

abbrev pub invariant-loop-input : goal.invariant-loop-input
invariant-loop-input l = (l.count + length (edge_inputs (drop l.input-index l.inputs)) ≡ length (edge_inputs l.fn.inputs)) × (l.count ≤ l.input-index)
