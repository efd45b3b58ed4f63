use Rattle.std.proofs.Common.{◌≡◌, ◌++◌, map, take, drop}
use Rattle.vod_eval.specs.Scenes.{unknown_of}
use Rattle.vod_eval.proofs.eval.clear.Given as goal

abbrev pub invariant-loop-i : goal.invariant-loop-i
invariant-loop-i g l = map g.V.Value.bits l.variables ≡ map (unknown_of g.V.Value.fill) (take l.i l.locals) ++ drop l.i (map g.V.Value.bits l.initial.variables)
