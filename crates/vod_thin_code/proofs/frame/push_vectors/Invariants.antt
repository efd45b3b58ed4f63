use Rattle.std.proofs.Common.{◌≡◌, ◌++◌, take}
use Rattle.vod_thin_code.specs.Bytes.{batch_bytes}
use Rattle.vod_thin_code.proofs.frame.push_vectors.Given as goal

abbrev pub invariant-loop-vector : goal.invariant-loop-vector
invariant-loop-vector l = l.bytes.items ≡ l.fn.bytes.items ++ batch_bytes (take l.vector-index l.vectors)
