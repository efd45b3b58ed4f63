use Rattle.std.proofs.Common.{◌≡◌, drop, flat_map}
use Rattle.vod_places.specs.Places.{sooner, least}
use Rattle.vod_uses.specs.Visible.{seen}
use Rattle.vod_uses.specs.Items.{setting_misuses}
use Rattle.vod_uses.proofs.declaration.first_settings_misuse.Given as goal

abbrev pub invariant-loop-setting : goal.invariant-loop-setting
invariant-loop-setting l = sooner l.first (least (flat_map (setting_misuses (seen l.scope)) (drop l.setting-index l.settings))) ≡ least (flat_map (setting_misuses (seen l.scope)) l.settings)
