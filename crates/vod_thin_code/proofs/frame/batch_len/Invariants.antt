use Rattle.std.proofs.Common.{◌≡◌, length, take}
use Rattle.vod_thin_code.specs.Bytes.{batch_bytes}
use Rattle.vod_thin_code.proofs.frame.batch_len.Given as goal

abbrev pub invariant-loop-vector : goal.invariant-loop-vector
invariant-loop-vector l = l.total ≡ length (batch_bytes (take l.vector-index l.vectors))
