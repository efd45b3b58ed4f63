use Rattle.std.proofs.Common.{◌≡◌}
use Rattle.vod_design.specs.Eval.{repeated}
use Rattle.vod_eval.specs.Pieces.{lowest}
use Rattle.vod_compiled.proofs.bits.replicated.Given as goal

abbrev pub invariant-loop : goal.invariant-loop
invariant-loop g l = g.V.Value.bits l.bits ≡ lowest (repeated l.counter (g.V.Value.bits l.value))
