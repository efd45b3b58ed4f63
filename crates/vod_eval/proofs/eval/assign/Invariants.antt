use Rattle.std.proofs.Common.{◌≡◌, map, drop}
use Rattle.vod_design.specs.Run.{assigned}
use Rattle.vod_eval.proofs.eval.assign.Given as goal

abbrev pub invariant-loop-i : goal.invariant-loop-i
invariant-loop-i g l =
    assigned g.V.Value.fill (drop l.i l.parts) (drop l.i (map g.V.Value.bits l.indices)) (g.V.Value.bits l.value) (map g.V.Value.bits l.frame)
    ≡ assigned g.V.Value.fill l.parts (map g.V.Value.bits l.indices) (g.V.Value.bits l.value) (map g.V.Value.bits l.fn.frame)
