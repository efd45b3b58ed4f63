-- A run as the dump sees it.
use Rattle.std.specs.Prelude.{List, [], ◌∷◌}
use Rattle.vod_thin_design.specs.declared.thin.Vector.{Vector}
use Rattle.vod_thin_queue.specs.State.{State}
use Rattle.vod_thin_vcd.specs.Dump.{Moment}

-- the values at the end of each vector's slot
abbrev pub moments : List Vector → List State → List Moment
moments [] ends = []
moments (v ∷ vs) [] = []
moments (v ∷ vs) (end ∷ ends) = record { time = v.time; values = end.val } ∷ moments vs ends
