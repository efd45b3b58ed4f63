use Rattle.std.proofs.Common.{◌≡◌, ◌++◌, drop, flat_map}
use Rattle.vod_names.specs.Lists.{inner_declarations}
use Rattle.vod_names.proofs.function.add_inner.Given as goal

abbrev pub invariant-loop-declaration : goal.invariant-loop-declaration
invariant-loop-declaration l = l.names ++ flat_map inner_declarations (drop l.declaration-index l.declarations) ≡ l.fn.names ++ flat_map inner_declarations l.declarations
