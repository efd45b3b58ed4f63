use Rattle.std.proofs.Common.{◌≡◌, ◌++◌, map, take}
use Rattle.vod_level.specs.Bits.{number_of}
use Rattle.vod_level.specs.Lists.{feed}
use Rattle.vod_level.proofs.edges.add_written.Given as goal

abbrev pub invariant-loop-bit : goal.invariant-loop-bit
invariant-loop-bit l = l.list.items ≡ l.fn.list.items ++ map (λ b. feed (number_of b) l.driver) (take l.bit-index l.bit-items)
