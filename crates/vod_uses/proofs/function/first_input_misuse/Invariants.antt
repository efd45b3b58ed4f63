use Rattle.std.proofs.Common.{◌≡◌, drop, flat_map}
use Rattle.vod_places.specs.Places.{sooner, least}
use Rattle.vod_uses.specs.Visible.{seen}
use Rattle.vod_uses.specs.Items.{input_misuses}
use Rattle.vod_uses.proofs.function.first_input_misuse.Given as goal

abbrev pub invariant-loop-input : goal.invariant-loop-input
invariant-loop-input l = sooner l.first (least (flat_map (input_misuses (seen l.scope)) (drop l.input-index l.inputs))) ≡ least (flat_map (input_misuses (seen l.scope)) l.inputs)
