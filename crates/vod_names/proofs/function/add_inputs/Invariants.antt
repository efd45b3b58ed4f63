use Rattle.std.proofs.Common.{◌≡◌, ◌++◌, drop}
use Rattle.vod_names.specs.Lists.{function_inputs}
use Rattle.vod_names.specs.Entries.{plain}
use Rattle.vod_names.specs.declared.entry.Kind.TheVariants as kind
use Rattle.vod_names.proofs.function.add_inputs.Given as goal

abbrev pub invariant-loop-input : goal.invariant-loop-input
invariant-loop-input l = l.names ++ function_inputs l.before (drop l.input-index l.inputs) ≡ l.fn.names ++ function_inputs (plain kind.Input) l.inputs
