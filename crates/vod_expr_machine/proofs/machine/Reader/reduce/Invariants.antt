use Rattle.std.proofs.Common.{◌≡◌, length}
use Rattle.vod_expr_machine.specs.Machine.{reduce}
use Rattle.vod_expr_machine.specs.View.{frames_of}
use Rattle.vod_expr_machine.proofs.machine.Reader.reduce.Given as goal

abbrev pub invariant-loop-frame : goal.invariant-loop-frame
invariant-loop-frame l = reduce l.level (frames_of l.fn.self) l.fn.place l.fn.kind ≡ reduce l.level (frames_of l.self) l.begin l.tree

abbrev pub decreases-loop-frame : goal.decreases-loop-frame
decreases-loop-frame l = length (frames_of l.self)
