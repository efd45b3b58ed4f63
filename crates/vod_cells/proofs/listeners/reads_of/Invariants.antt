use Rattle.std.proofs.Common.{◌≡◌, map, take}
use Rattle.vod_design.specs.Reads.{reads}
use Rattle.vod_cells.proofs.listeners.reads_of.Given as goal

abbrev pub invariant-loop-driver : goal.invariant-loop-driver
invariant-loop-driver l = l.lists.items ≡ map (λ a. reads a.value) (take l.driver-index l.drivers)
