use Rattle.std.proofs.Common.{◌≡◌, drop, flat_map}
use Rattle.vod_places.specs.Places.{sooner, least}
use Rattle.vod_uses.specs.Visible.{seen}
use Rattle.vod_uses.specs.Items.{gate_misuses}
use Rattle.vod_uses.proofs.instance.first_gate_misuse.Given as goal

abbrev pub invariant-loop-gate : goal.invariant-loop-gate
invariant-loop-gate l = sooner l.first (least (flat_map (gate_misuses (seen l.scope)) (drop l.gate-index l.gates))) ≡ least (flat_map (gate_misuses (seen l.scope)) l.gates)
