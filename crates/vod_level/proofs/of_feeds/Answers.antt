use Rattle.std.proofs.Common.{◌≡◌, ◌∙◌, ℕ, ◌+◌, List, length, get_or, refl, ap, sym, subst}
use Rattle.vod_level.specs.declared.types.Rank.{Rank}
use Rattle.vod_level.specs.Order.{IsOrder}
use Rattle.vod_level.specs.Lists.{has_feed, by_levels, ranks_of}
use Rattle.vod_level.proofs.Ordering.{is_order, no_cycle, levels_low}
use Rattle.vod_level.proofs.of_feeds.Goals as goal

pub ranked-requires-clause-low : goal.ranked-requires-clause-low
ranked-requires-clause-low c = levels_low c.args.feeds.now c.args.count c.in_ok-peeled.peeled.levels.items c.in_ok-peeled.peeled.left.items c.as_slice-then-is_done.result.now c.in_ok-peeled.ensures c.as_slice-then-is_done.ensures.value

pub returns-then-is_done-clause-order : goal.returns-then-is_done-clause-order
returns-then-is_done-clause-order c =
    let s = c.in_ok-peeled.ensures in
    let none : (q : ℕ) → get_or c.in_ok-peeled.peeled.left.items q 0 ≡ 0 = λ q. ap (λ l. get_or l q 0) (sym c.as_slice.ensures.value) ∙ c.if-is_done.ensures.yes refl q in
    let size : length c.as_slice-then-is_done.result.now ≡ c.args.count = ap length c.as_slice-then-is_done.ensures.value ∙ s.levels_size in
    let is : c.new.result ≡ ranks_of (by_levels 0 c.in_ok-peeled.peeled.levels.items) 0 (c.args.count + 1) =
    c.new.ensures ∙ c.in_ok-ranks.ensures ∙ ap (λ l. ranks_of (by_levels 0 l) 0 (length c.as_slice-then-is_done.result.now + 1)) c.as_slice-then-is_done.ensures.value ∙ ap (λ n. ranks_of (by_levels 0 c.in_ok-peeled.peeled.levels.items) 0 (n + 1)) size in
    let P : List Rank → Type 0 = IsOrder (has_feed c.args.feeds.now) c.args.count in
    subst P (sym is) (is_order c.args.feeds.now c.args.count c.in_ok-peeled.peeled.levels.items c.in_ok-peeled.peeled.left.items c.requires.sources s none)

pub returns-then-is_done-clause-acyclic : goal.returns-then-is_done-clause-acyclic
returns-then-is_done-clause-acyclic c =
    let none : (q : ℕ) → get_or c.in_ok-peeled.peeled.left.items q 0 ≡ 0 = λ q. ap (λ l. get_or l q 0) (sym c.as_slice.ensures.value) ∙ c.if-is_done.ensures.yes refl q in
    no_cycle c.args.feeds.now c.args.count c.in_ok-peeled.peeled.levels.items c.in_ok-peeled.peeled.left.items c.in_ok-peeled.ensures none
