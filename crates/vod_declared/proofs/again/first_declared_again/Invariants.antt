use Rattle.std.proofs.Common.{◌≡◌, [], drop, map}
use Rattle.vod_places.specs.Places.{sooner, least, each_after}
use Rattle.vod_declared.specs.Faults.{declared_again}
use Rattle.vod_names.specs.Entries.{shown}
use Rattle.vod_declared.proofs.again.first_declared_again.Given as goal

abbrev pub invariant-loop-entry : goal.invariant-loop-entry
invariant-loop-entry l = sooner l.first (least (each_after declared_again l.seen (map shown (drop l.entry-index l.entries)))) ≡ least (each_after declared_again [] (map shown l.entries))
