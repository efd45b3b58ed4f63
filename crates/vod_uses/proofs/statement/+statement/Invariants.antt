use Rattle.std.proofs.Common.{◌≡◌, drop, flat_map}
use Rattle.vod_places.specs.Places.{sooner, least}
use Rattle.vod_uses.specs.Visible.{seen}
use Rattle.vod_uses.specs.Statements.{statement_misuses, item_case_misuses}
use Rattle.vod_uses.proofs.statement.+statement.Given as goal

abbrev pub invariant-first_block_misuse-loop-statement : goal.invariant-first_block_misuse-loop-statement
invariant-first_block_misuse-loop-statement l = sooner l.first (least (flat_map (statement_misuses (seen l.scope)) (drop l.statement-index l.statements))) ≡ least (flat_map (statement_misuses (seen l.scope)) l.statements)

abbrev pub invariant-first_case_misuse-loop-item : goal.invariant-first_case_misuse-loop-item
invariant-first_case_misuse-loop-item l = sooner l.first (least (flat_map (item_case_misuses (seen l.scope)) (drop l.item-index l.items))) ≡ least (flat_map (item_case_misuses (seen l.scope)) l.items)
