use Rattle.std.proofs.Common.{◌≡◌, drop}
use Rattle.std.specs.List.{list_any}
use Rattle.vod_declared.specs.Faults.{is_input}
use Rattle.vod_declared.proofs.function.has_input.Given as goal

abbrev pub invariant-loop-declaration : goal.invariant-loop-declaration
invariant-loop-declaration l = list_any is_input (drop l.declaration-index l.declarations) ≡ list_any is_input l.declarations
