use Rattle.std.proofs.Common.{◌≡◌, ◌++◌, drop}
use Rattle.vod_names.specs.Lists.{each_value}
use Rattle.vod_names.proofs.items.add_values.Given as goal

abbrev pub invariant-loop-value : goal.invariant-loop-value
invariant-loop-value l = l.names ++ each_value l.declaration (drop l.value-index l.values) ≡ l.fn.names ++ each_value l.declaration l.values
