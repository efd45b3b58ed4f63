use Rattle.std.proofs.Common.{◌≡◌, ◌-◌, ◌*◌, drop}
use Rattle.vod_thin_code.specs.Moves.{moves_at}
use Rattle.vod_thin_code.proofs.Assignments.{behind}
use Rattle.vod_thin_code.proofs.read.read_moves.Given as goal

abbrev pub invariant-loop-i : goal.invariant-loop-i
invariant-loop-i l = moves_at l.count 0 l.inputs l.bytes ≡ behind l.moves.items (moves_at (l.count - l.i) l.least l.inputs (drop (12 * l.i) l.bytes))
