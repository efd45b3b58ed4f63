use Rattle.std.proofs.Common.{◌≡◌, [], drop, map}
use Rattle.vod_names.specs.Entries.{shown}
use Rattle.vod_counts.specs.Limits.{is_input, firsts}
use Rattle.vod_counts.proofs.weights.count_inputs.Given as goal

abbrev pub invariant-loop-entry : goal.invariant-loop-entry
invariant-loop-entry l = firsts is_input l.found (map shown (drop l.entry-index l.entries)) ≡ firsts is_input [] (map shown l.entries)
