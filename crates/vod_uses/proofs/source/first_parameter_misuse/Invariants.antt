use Rattle.std.proofs.Common.{◌≡◌, drop, flat_map}
use Rattle.vod_places.specs.Places.{sooner, least}
use Rattle.vod_uses.specs.Visible.{seen}
use Rattle.vod_uses.specs.Items.{parameter_misuses}
use Rattle.vod_uses.proofs.source.first_parameter_misuse.Given as goal

abbrev pub invariant-loop-parameter : goal.invariant-loop-parameter
invariant-loop-parameter l = sooner l.first (least (flat_map (parameter_misuses (seen l.scope)) (drop l.parameter-index l.parameters))) ≡ least (flat_map (parameter_misuses (seen l.scope)) l.parameters)
