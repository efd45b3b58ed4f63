use Rattle.std.proofs.Common.{◌≡◌, map, take}
use Rattle.vod_eval.specs.Room.{saturated}
use Rattle.vod_compiled.specs.Code.{cells_of}
use Rattle.vod_eval.specs.Room.{most}
use Rattle.vod_compiled.proofs.flat.+cells.Given as goal

abbrev pub invariant-most_cells-loop-e : goal.invariant-most_cells-loop-e
invariant-most_cells-loop-e l = l.cells ≡ saturated (most (map cells_of (take l.e-index l.exprs)))
