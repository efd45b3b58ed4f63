use Rattle.std.proofs.Common.{◌≡◌, ◌+◌, ◌≤◌, drop, map}
use Rattle.vod_names.specs.Entries.{shown}
use Rattle.vod_uses.specs.Calls.{input_count}
use Rattle.vod_uses.proofs.functions.input_count.Given as goal

abbrev pub invariant-loop-entry : goal.invariant-loop-entry
invariant-loop-entry l = (l.count + input_count (map shown (drop l.entry-index l.entries)) ≡ input_count (map shown l.entries)) × (l.count ≤ l.entry-index)
