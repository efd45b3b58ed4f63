use Rattle.std.proofs.Common.{◌≡◌, drop}
use Rattle.vod_directive.specs.Meaning.{from_first}
use Rattle.vod_directive.proofs.meaning.from_first.Given as goal

-- the mark is found in the bytes that are left as in all of them
abbrev pub invariant-loop-place : goal.invariant-loop-place
invariant-loop-place l = from_first l.mark (drop l.place l.bytes) ≡ from_first l.mark l.bytes
