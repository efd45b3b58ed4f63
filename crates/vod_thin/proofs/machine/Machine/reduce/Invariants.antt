use Rattle.std.proofs.Common.{◌≡◌, length}
use Rattle.vod_thin.specs.Machine.{reduce}
use Rattle.vod_thin.specs.MachineView.{frames_of}
use Rattle.vod_thin.proofs.machine.Machine.reduce.Given as goal

abbrev pub invariant-loop-frame : goal.invariant-loop-frame
invariant-loop-frame l = reduce l.level (frames_of l.fn.self) l.fn.self.last ≡ reduce l.level (frames_of l.self) l.self.last

abbrev pub decreases-loop-frame : goal.decreases-loop-frame
decreases-loop-frame l = length (frames_of l.self)
