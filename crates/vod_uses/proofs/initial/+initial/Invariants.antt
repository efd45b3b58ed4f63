use Rattle.std.proofs.Common.{◌≡◌, drop, flat_map}
use Rattle.vod_places.specs.Places.{sooner, least}
use Rattle.vod_uses.specs.Visible.{seen}
use Rattle.vod_uses.specs.Statements.{initial_misuses}
use Rattle.vod_uses.proofs.initial.+initial.Given as goal

abbrev pub invariant-first_initial_misuse_of-loop-statement : goal.invariant-first_initial_misuse_of-loop-statement
invariant-first_initial_misuse_of-loop-statement l = sooner l.first (least (flat_map (initial_misuses (seen l.scope)) (drop l.statement-index l.statements))) ≡ least (flat_map (initial_misuses (seen l.scope)) l.statements)
