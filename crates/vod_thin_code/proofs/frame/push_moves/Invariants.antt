use Rattle.std.proofs.Common.{◌≡◌, ◌++◌, take}
use Rattle.std.specs.List.{flat_map}
use Rattle.vod_thin_code.specs.Bytes.{move_bytes}
use Rattle.vod_thin_code.proofs.frame.push_moves.Given as goal

abbrev pub invariant-loop-assigned : goal.invariant-loop-assigned
invariant-loop-assigned l = l.bytes.items ≡ l.fn.bytes.items ++ flat_map move_bytes (take l.assigned-index l.moves)
