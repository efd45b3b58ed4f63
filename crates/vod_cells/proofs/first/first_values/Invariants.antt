use Rattle.std.proofs.Common.{◌≡◌, ◌++◌, map, drop}
use Rattle.std.specs.List.{enumerate_from}
use Rattle.vod_slot.specs.State.{first_value}
use Rattle.vod_cells.proofs.first.first_values.Given as goal

abbrev pub invariant-loop-n : goal.invariant-loop-n
invariant-loop-n l = l.values.items ++ map (λ e. first_value l.fn.inputs e.0 e.1) (enumerate_from l.n (drop l.n l.fn.signals)) ≡ map (λ e. first_value l.fn.inputs e.0 e.1) (enumerate_from 0 l.fn.signals)
