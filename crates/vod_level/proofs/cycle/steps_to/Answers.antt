use Rattle.std.proofs.Common.{◌∙◌, ◌+◌, ◌<◌, length, ap, arith}
use Rattle.vod_level.proofs.Steps.{get_or_any}
use Rattle.vod_level.proofs.Taking.{readers_at, inside_all}
use Rattle.vod_level.proofs.Searching.{search_begins, search_goes, search_end, next_reached, held_none, held_same}
use Rattle.vod_level.proofs.cycle.steps_to.Goals as goal

pub reach-requires-clause-inside : goal.reach-requires-clause-inside
reach-requires-clause-inside c =
    let rs = readers_at c.args.turned.now c.args.count c.args.goal c.in_ok-feeders.feeders c.of.result.now c.in_ok-feeders.ensures.made c.requires.within c.of.ensures in
    inside_all c.args.turned.now c.args.count c.args.goal c.of.result.now _ c.requires.readers rs (omega (arith, c.deref_mut.ensures.len, c.in_ok-steps.ensures.len))

pub reach-requires-clause-before : goal.reach-requires-clause-before
reach-requires-clause-before c = held_none c.args.count c.in_ok-steps.steps.items c.new-reached.result.items c.deref_mut.result.now (c.in_ok-steps.ensures.items_if_clones_equal (λ y e. e)) c.new-reached.ensures.items c.deref_mut.ensures.value

pub loop-next-init : goal.loop-next-init
loop-next-init c =
    let rs = readers_at c.args.turned.now c.args.count c.args.goal c.in_ok-feeders.feeders c.of.result.now c.in_ok-feeders.ensures.made c.requires.within c.of.ensures in
    search_begins c.args.turned.now c.args.count c.args.goal c.in_ok-steps.steps.items c.new-reached.result.items c.deref_mut.result.now c.of.result.now c.reach.new.steps c.reach.new.reached.items c.in_ok-steps.steps.len c.requires.readers
    (c.in_ok-steps.ensures.items_if_clones_equal (λ y e. e)) (omega (arith, c.in_ok-steps.ensures.len)) c.new-reached.ensures.items c.deref_mut.ensures.value rs (omega arith) c.reach.auto.steps c.in_ok-reach.ensures.steps c.in_ok-reach.ensures.after
    c.in_ok-reach.ensures.added

pub loop-next-preserved : goal.loop-next-preserved
loop-next-preserved c =
    let s = c.loop-next.invariant in
    let lt : c.loop-next.next < length c.loop-next.reached.items = omega arith in
    let at = next_reached c.args.turned.now c.args.count c.args.goal c.loop-next.next c.loop-next.reached.items c.loop-next.steps.items c.index-driver.result.now lt s c.index-driver.ensures in
    let rs = readers_at c.args.turned.now c.args.count c.index-driver.result.now c.in_ok-feeders.feeders c.of-in-loop-next.result.now c.in_ok-feeders.ensures.made at.1 c.of-in-loop-next.ensures in
    let inside : c.index-driver.result.now < length c.loop-next.steps.items = omega (arith, s.size, at.1) in
    let any = get_or_any c.loop-next.steps.items c.index-driver.result.now c.index.result.now 0 inside in
    search_goes c.args.turned.now c.args.count c.args.goal c.loop-next.next c.loop-next.reached.items c.loop-next.steps.items c.index-driver.result.now (c.index.result.now + 1) c.deref_mut-in-loop-next.result.now c.of-in-loop-next.result.now
    c.reach-in-loop-next.new.steps c.reach-in-loop-next.new.reached.items c.loop-next.steps.len c.requires.sources c.requires.readers lt s at.0 (ap (λ v. v + 1) (c.index.ensures ∙ any)) c.deref_mut-in-loop-next.ensures.value rs (omega arith)
    c.reach-in-loop-next.auto.steps c.in_ok-reach-2.ensures.steps c.in_ok-reach-2.ensures.after c.in_ok-reach-2.ensures.behind c.in_ok-reach-2.ensures.added

pub returns : goal.returns
returns c = search_end c.args.turned.now c.args.count c.args.goal c.loop-next.next c.loop-next.reached.items c.loop-next.steps.items (omega arith) c.loop-next.invariant

pub index-requires : goal.index-requires
index-requires c =
    let s = c.loop-next.invariant in
    let at = next_reached c.args.turned.now c.args.count c.args.goal c.loop-next.next c.loop-next.reached.items c.loop-next.steps.items c.index-driver.result.now (omega arith) s c.index-driver.ensures in
    omega (arith, s.size, at.1)

pub overflow_add-more : goal.overflow_add-more
overflow_add-more c =
    let s = c.loop-next.invariant in
    let at = next_reached c.args.turned.now c.args.count c.args.goal c.loop-next.next c.loop-next.reached.items c.loop-next.steps.items c.index-driver.result.now (omega arith) s c.index-driver.ensures in
    let any = get_or_any c.loop-next.steps.items c.index-driver.result.now c.index.result.now 0 (omega (arith, s.size, at.1)) in
    let low = s.low c.index-driver.result.now in
    omega (arith, c.index.ensures, c.requires.few, at.2)

pub of-requires-in-loop-next : goal.of-requires-in-loop-next
of-requires-in-loop-next c =
    let s = c.loop-next.invariant in
    let at = next_reached c.args.turned.now c.args.count c.args.goal c.loop-next.next c.loop-next.reached.items c.loop-next.steps.items c.index-driver.result.now (omega arith) s c.index-driver.ensures in
    omega (arith, c.in_ok-feeders.ensures.size, at.1)

pub reach-requires-in-loop-next-clause-inside : goal.reach-requires-in-loop-next-clause-inside
reach-requires-in-loop-next-clause-inside c =
    let s = c.loop-next.invariant in
    let at = next_reached c.args.turned.now c.args.count c.args.goal c.loop-next.next c.loop-next.reached.items c.loop-next.steps.items c.index-driver.result.now (omega arith) s c.index-driver.ensures in
    let rs = readers_at c.args.turned.now c.args.count c.index-driver.result.now c.in_ok-feeders.feeders c.of-in-loop-next.result.now c.in_ok-feeders.ensures.made at.1 c.of-in-loop-next.ensures in
    inside_all c.args.turned.now c.args.count c.index-driver.result.now c.of-in-loop-next.result.now _ c.requires.readers rs (ap length c.deref_mut-in-loop-next.ensures.value ∙ s.size)

pub reach-requires-in-loop-next-clause-before : goal.reach-requires-in-loop-next-clause-before
reach-requires-in-loop-next-clause-before c = held_same c.loop-next.steps.items c.deref_mut-in-loop-next.result.now c.loop-next.reached.items c.deref_mut-in-loop-next.ensures.value c.loop-next.invariant.is_reached
