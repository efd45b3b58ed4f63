use Rattle.std.proofs.Common.{◌≡◌, ◌∙◌, ◌<◌, All, ℕ, List, Option, MatchOption, Vec, Global, get_or, ap, sym, subst}
use Rattle.vod_fanout.specs.declared.Feed.{Feed}
use Rattle.vod_level.specs.Cycle.{Chain}
use Rattle.vod_level.specs.Lists.{has_feed}
use Rattle.vod_level.specs.Steps.{IsFrom}
use Rattle.vod_level.proofs.Ordering.{cycle_stuck}
use Rattle.vod_level.proofs.Walking.{turned_source, turned_reader}
use Rattle.vod_level.proofs.Circling.{found_least, none_next, none_at_all, no_chain_ahead}
use Rattle.vod_level.proofs.cycle.least_cycle.Goals as goal

pub returns-in-Some : goal.returns-in-Some
returns-in-Some c =
    let P : Option (Vec ℕ Global) → Type 0 = λ found. MatchOption found ((ds : List ℕ) → Chain (has_feed c.args.feeds.now) c.loop-driver.driver ds c.loop-driver.driver → ⊥) (λ v. IsFrom c.args.feeds.now c.args.count c.loop-driver.driver v.items) in
    found_least c.args.feeds.now c.args.count c.loop-driver.driver c.in-Some.cycle.items (subst P c.in-Some.is c.in_ok-cycle.ensures) c.loop-driver.invariant

pub unreachable-requires : goal.unreachable-requires
unreachable-requires c =
    let q = c.requires.stuck in
    none_at_all c.args.feeds.now c.args.count c.loop-driver.driver q.0 c.args.peeled.now.levels.items c.args.peeled.now.left.items c.requires.sources c.requires.peeled q.1 c.loop-driver-test.false c.loop-driver.invariant

pub peel-requires-clause-sources : goal.peel-requires-clause-sources
peel-requires-clause-sources c = let P : List Feed → Type 0 = All (λ f. f.source < c.args.count) in subst P (sym (c.as_slice.ensures.value ∙ c.in_ok-turned.ensures)) (turned_source c.args.feeds.now c.args.count c.requires.readers)

pub peel-requires-clause-readers : goal.peel-requires-clause-readers
peel-requires-clause-readers c = let P : List Feed → Type 0 = All (λ f. f.reader < c.args.count) in subst P (sym (c.as_slice.ensures.value ∙ c.in_ok-turned.ensures)) (turned_reader c.args.feeds.now c.args.count c.requires.sources)

pub loop-driver-preserved-then-as_slice-driver-eq0 : goal.loop-driver-preserved-then-as_slice-driver-eq0
loop-driver-preserved-then-as_slice-driver-eq0 c =
    let left = c.args.peeled.now.left.items in
    let none : get_or left c.loop-driver.driver 0 ≡ 0 = ap (λ l. get_or l c.loop-driver.driver 0) (sym c.as_slice-in-loop-driver.ensures.value) ∙ c.if-as_slice-driver-eq0.true in
    none_next c.args.feeds.now c.loop-driver.driver c.loop-driver.invariant (λ ds h. cycle_stuck c.args.feeds.now c.args.count c.args.peeled.now.levels.items left c.requires.peeled c.loop-driver.driver ds h none)

pub loop-driver-preserved-then-as_slice-driver-eq0-2 : goal.loop-driver-preserved-then-as_slice-driver-eq0-2
loop-driver-preserved-then-as_slice-driver-eq0-2 c =
    let left = c.in_ok-ahead.ahead.left.items in
    let none : get_or left c.loop-driver.driver 0 ≡ 0 = ap (λ l. get_or l c.loop-driver.driver 0) (sym c.as_slice-in-loop-driver-2.ensures.value) ∙ c.if-as_slice-driver-eq0-2.true in
    none_next c.args.feeds.now c.loop-driver.driver c.loop-driver.invariant
    (no_chain_ahead c.args.feeds.now c.as_slice.result.now c.args.count c.loop-driver.driver c.in_ok-ahead.ahead.levels.items left (c.as_slice.ensures.value ∙ c.in_ok-turned.ensures) c.in_ok-ahead.ensures none)
