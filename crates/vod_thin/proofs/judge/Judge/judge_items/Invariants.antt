use Rattle.std.proofs.Common.{◌≡◌, map, drop}
use Rattle.vod_thin_syntax.specs.Limit.{sooner}
use Rattle.vod_thin_syntax.specs.View.{item_of}
use Rattle.vod_thin.specs.Rules.{least}
use Rattle.vod_thin.specs.Tables.{tables_of, with_items, all_item_places}
use Rattle.vod_thin.proofs.judge.Judge.judge_items.Given as goal

-- what was found, and what the items that are left add
abbrev pub invariant-loop-item : goal.invariant-loop-item
invariant-loop-item l =
    (sooner l.first (least (all_item_places (tables_of l.self) (map (item_of l.text.source.now l.text.tokens.now) (drop l.item-index l.items)))) ≡ least (all_item_places (tables_of l.fn.self) (map (item_of l.text.source.now l.text.tokens.now) l.items)))
    × (with_items (tables_of l.self) (map (item_of l.text.source.now l.text.tokens.now) (drop l.item-index l.items)) ≡ with_items (tables_of l.fn.self) (map (item_of l.text.source.now l.text.tokens.now) l.items))
