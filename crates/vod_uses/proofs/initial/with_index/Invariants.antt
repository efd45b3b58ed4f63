use Rattle.std.proofs.Common.{◌≡◌, take, map}
use Rattle.vod_names.specs.Entries.{shown}
use Rattle.vod_uses.proofs.initial.with_index.Given as goal

abbrev pub invariant-loop-entry : goal.invariant-loop-entry
invariant-loop-entry l = l.names ≡ map shown (take l.entry-index l.entry-items)
