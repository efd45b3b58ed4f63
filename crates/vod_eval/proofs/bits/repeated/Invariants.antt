use Rattle.std.proofs.Common.{◌≡◌, option_map}
use Rattle.vod_design.specs.Eval.{repeated}
use Rattle.vod_eval.specs.Pieces.{bits_of_option, lowest}
use Rattle.vod_eval.proofs.bits.repeated.Given as goal

abbrev pub invariant-loop : goal.invariant-loop
invariant-loop g l = bits_of_option (option_map g.V.Value.bits l.bits) ≡ lowest (repeated l.counter (g.V.Value.bits l.value))
