use Rattle.std.proofs.Common.{◌≡◌, map, drop}
use Rattle.vod_thin_syntax.specs.View.{item_of}
use Rattle.vod_thin.specs.Tables.{tables_of, with_all_uses}
use Rattle.vod_thin.proofs.judge.Judge.add_all_uses.Given as goal

-- the items that are left add the rest
abbrev pub invariant-loop-item : goal.invariant-loop-item
invariant-loop-item l = with_all_uses (tables_of l.self) (map (item_of l.text.source.now l.text.tokens.now) (drop l.item-index l.items)) ≡ with_all_uses (tables_of l.fn.self) (map (item_of l.text.source.now l.text.tokens.now) l.items)
