use Rattle.std.proofs.Common.{◌≡◌, ◌++◌, [], drop, map}
use Rattle.vod_names.specs.Entries.{shown}
use Rattle.vod_uses.specs.Registers.{registers_after}
use Rattle.vod_uses.proofs.registers.registers_of.Given as goal

abbrev pub invariant-loop-entry : goal.invariant-loop-entry
invariant-loop-entry l = l.registers ++ registers_after l.seen (map shown (drop l.entry-index l.entries)) ≡ registers_after [] (map shown l.entries)
