use Rattle.std.proofs.Common.{◌≡◌, drop, flat_map}
use Rattle.vod_places.specs.Places.{sooner, least}
use Rattle.vod_uses.specs.Visible.{seen}
use Rattle.vod_uses.specs.Items.{instance_misuses}
use Rattle.vod_uses.proofs.instance.first_instance_misuse.Given as goal

abbrev pub invariant-loop-instance : goal.invariant-loop-instance
invariant-loop-instance l = sooner l.first (least (flat_map (instance_misuses (seen l.scope)) (drop l.instance-index l.instances))) ≡ least (flat_map (instance_misuses (seen l.scope)) l.instances)
