use Rattle.std.proofs.Common.{◌≡◌, ◌∙◌, ap, List, ℕ}
use Rattle.vod_thin_syntax.specs.Limit.{sooner}
use Rattle.vod_thin.specs.Tables.{tables_of}
use Rattle.vod_thin.proofs.Rounds.{item_round}
use Rattle.vod_thin.proofs.judge.Judge.judge_items.Goals as goal

pub loop-item-preserved : goal.loop-item-preserved
loop-item-preserved c =
    let more = item_round c.args.text.now.source.now c.args.text.now.tokens.now (tables_of c.loop-item.self) (tables_of c.add_item.new.self) c.args.items.now c.loop-item.item-index _ c.loop-item.first c.sooner-first.result
    c.loop-item-test.true c.in_ok-add_item.ensures (c.sooner-first.ensures ∙ ap (sooner c.loop-item.first) c.item_fault.ensures) in
    (more.0 ∙ c.loop-item.invariant.0, more.1 ∙ c.loop-item.invariant.1)
