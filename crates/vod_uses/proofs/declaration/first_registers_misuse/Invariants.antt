use Rattle.std.proofs.Common.{◌≡◌, drop, flat_map}
use Rattle.vod_places.specs.Places.{sooner, least}
use Rattle.vod_uses.specs.Visible.{seen}
use Rattle.vod_uses.specs.Items.{register_misuses}
use Rattle.vod_uses.proofs.declaration.first_registers_misuse.Given as goal

abbrev pub invariant-loop-register : goal.invariant-loop-register
invariant-loop-register l = sooner l.first (least (flat_map (register_misuses (seen l.scope)) (drop l.register-index l.registers))) ≡ least (flat_map (register_misuses (seen l.scope)) l.registers)
