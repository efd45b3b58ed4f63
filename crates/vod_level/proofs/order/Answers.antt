use Rattle.std.proofs.Common.{ℕ, Bool, List, length, IfOk, OnOk, IfErr, subst}
use Rattle.vod_level.specs.Order.{IsOrder}
use Rattle.vod_level.specs.Cycle.{IsCycle, IsCause}
use Rattle.vod_level.proofs.Feeding.{listed_source, listed_reader, same_feeds}
use Rattle.vod_level.proofs.order.Goals as goal

pub of_feeds-requires-clause-sources : goal.of_feeds-requires-clause-sources
of_feeds-requires-clause-sources c = listed_source c.args.drivers.now c.in_ok-edges.edges.items c.as_slice.result.now c.as_slice.ensures.value c.in_ok-edges.ensures.feeds

pub of_feeds-requires-clause-readers : goal.of_feeds-requires-clause-readers
of_feeds-requires-clause-readers c = listed_reader c.args.drivers.now c.in_ok-edges.edges.items c.as_slice.result.now c.as_slice.ensures.value c.in_ok-edges.ensures.feeds

pub returns-clause-order : goal.returns-clause-order
returns-clause-order c =
    let same = same_feeds c.args.drivers.now c.in_ok-edges.edges.items c.as_slice.result.now c.as_slice.ensures.value c.in_ok-edges.ensures.feeds in
    let P : (ℕ → ℕ → Bool) → Type 0 = λ f. IfOk c.of_feeds.result (λ order. IsOrder f (length c.args.drivers.now) order) in
    subst P same c.of_feeds.ensures.order

pub returns-clause-acyclic : goal.returns-clause-acyclic
returns-clause-acyclic c =
    let same = same_feeds c.args.drivers.now c.in_ok-edges.edges.items c.as_slice.result.now c.as_slice.ensures.value c.in_ok-edges.ensures.feeds in
    let P : (ℕ → ℕ → Bool) → Type 0 = λ f. OnOk c.of_feeds.result ((ds : List ℕ) → IsCycle f ds → ⊥) in
    subst P same c.of_feeds.ensures.acyclic

pub returns-clause-cause : goal.returns-clause-cause
returns-clause-cause c =
    let same = same_feeds c.args.drivers.now c.in_ok-edges.edges.items c.as_slice.result.now c.as_slice.ensures.value c.in_ok-edges.ensures.feeds in
    let P : (ℕ → ℕ → Bool) → Type 0 = λ f. IfErr c.of_feeds.result (IsCause f) in
    subst P same c.of_feeds.ensures.cause
