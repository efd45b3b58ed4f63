use Rattle.std.proofs.Common.{◌<◌, ◌^◌}
use Rattle.vod_text.proofs.Values.{Completes}
use Rattle.vod_text.proofs.read.number.Given as goal

-- the number so far and the digits that are left make the whole number
abbrev pub invariant-loop-byte : goal.invariant-loop-byte
invariant-loop-byte l = (l.number < 2 ^ 128) × Completes l.base l.text l.byte-index l.number
