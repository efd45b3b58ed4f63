use Rattle.std.proofs.Common.{◌≡◌, ◌++◌, map, take, drop}
use Rattle.vod_design.specs.Run.{operand_outside, part_target}
use Rattle.vod_eval.proofs.block.resolve.Given as goal

abbrev pub invariant-loop-i : goal.invariant-loop-i
invariant-loop-i g l =
    l.targets ≡ map (part_target g.V.Value.fill (operand_outside g.V.Value.fill l.functions (g.T.Tables.values l.tables))) (take l.i l.parts) ++ drop l.i l.initial.targets
