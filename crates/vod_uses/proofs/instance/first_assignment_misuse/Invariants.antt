use Rattle.std.proofs.Common.{◌≡◌, drop, flat_map}
use Rattle.vod_places.specs.Places.{sooner, least}
use Rattle.vod_uses.specs.Visible.{seen}
use Rattle.vod_uses.specs.Items.{assignment_misuses}
use Rattle.vod_uses.proofs.instance.first_assignment_misuse.Given as goal

abbrev pub invariant-loop-assignment : goal.invariant-loop-assignment
invariant-loop-assignment l = sooner l.first (least (flat_map (assignment_misuses (seen l.scope)) (drop l.assignment-index l.assignments))) ≡ least (flat_map (assignment_misuses (seen l.scope)) l.assignments)
