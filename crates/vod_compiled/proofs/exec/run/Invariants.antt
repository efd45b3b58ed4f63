use Rattle.std.proofs.Common.{◌≡◌, ◌-◌, map, drop, length}
use Rattle.vod_compiled.specs.Steps.{world, exec}
use Rattle.vod_compiled.proofs.exec.run.Given as goal

abbrev pub invariant-loop-at : goal.invariant-loop-at
invariant-loop-at g l =
    exec (world g.V.Value.fill (g.T.Tables.values l.tables)) 0 (drop l.at l.steps) (map g.V.Value.bits l.cells)
    ≡ exec (world g.V.Value.fill (g.T.Tables.values l.tables)) 0 l.steps (map g.V.Value.bits l.initial.cells)

abbrev pub decreases-loop-at : goal.decreases-loop-at
decreases-loop-at g l = length l.steps - l.at
