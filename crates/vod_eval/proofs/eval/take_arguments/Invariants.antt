use Rattle.std.proofs.Common.{◌≡◌, ◌++◌, map, take, drop, length}
use Rattle.vod_design.specs.Run.{entered}
use Rattle.vod_eval.specs.Scenes.{with_signs}
use Rattle.vod_eval.proofs.eval.take_arguments.Given as goal

abbrev pub invariant-loop-i : goal.invariant-loop-i
invariant-loop-i g l =
    map g.V.Value.bits l.room ≡ entered g.V.Value.fill (take l.i l.inputs) (with_signs (take (length l.arguments) (map g.V.Value.bits l.initial.room)) l.arguments) ++ drop l.i (map g.V.Value.bits l.initial.room)
