use Rattle.std.proofs.Common.{◌≡◌, drop, map, flat_map}
use Rattle.vod_places.specs.Places.{sooner, least}
use Rattle.vod_declared.specs.Faults.{signed_ram}
use Rattle.vod_names.specs.Entries.{shown}
use Rattle.vod_declared.proofs.again.first_signed_ram.Given as goal

abbrev pub invariant-loop-entry : goal.invariant-loop-entry
invariant-loop-entry l = sooner l.first (least (flat_map signed_ram (map shown (drop l.entry-index l.entries)))) ≡ least (flat_map signed_ram (map shown l.entries))
