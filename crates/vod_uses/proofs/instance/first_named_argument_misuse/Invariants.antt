use Rattle.std.proofs.Common.{◌≡◌, drop, flat_map}
use Rattle.vod_places.specs.Places.{sooner, least}
use Rattle.vod_uses.specs.Visible.{seen}
use Rattle.vod_uses.specs.Items.{named_argument_misuses}
use Rattle.vod_uses.proofs.instance.first_named_argument_misuse.Given as goal

abbrev pub invariant-loop-argument : goal.invariant-loop-argument
invariant-loop-argument l = sooner l.first (least (flat_map (named_argument_misuses (seen l.scope)) (drop l.argument-index l.named))) ≡ least (flat_map (named_argument_misuses (seen l.scope)) l.named)
