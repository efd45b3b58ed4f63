use Rattle.std.proofs.Common.{◌≡◌, [], drop, map}
use Rattle.vod_names.specs.Entries.{shown}
use Rattle.vod_counts.specs.Limits.{is_signal, firsts}
use Rattle.vod_counts.proofs.weights.count_signals.Given as goal

abbrev pub invariant-loop-entry : goal.invariant-loop-entry
invariant-loop-entry l = firsts is_signal l.found (map shown (drop l.entry-index l.entries)) ≡ firsts is_signal [] (map shown l.entries)
