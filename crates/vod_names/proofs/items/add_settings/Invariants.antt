use Rattle.std.proofs.Common.{◌≡◌, ◌++◌, drop}
use Rattle.vod_names.specs.Lists.{each_setting}
use Rattle.vod_names.proofs.items.add_settings.Given as goal

abbrev pub invariant-loop-setting : goal.invariant-loop-setting
invariant-loop-setting l = l.names ++ each_setting l.declaration (drop l.setting-index l.settings) ≡ l.fn.names ++ each_setting l.declaration l.settings
