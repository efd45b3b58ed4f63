use Rattle.std.proofs.Common.{◌≡◌, ℕ, ◌<◌, List, length, get_or, ap, ◌∙◌, sym, subst, arith}
use Rattle.vod_fanout.specs.declared.Feed.{Feed}
use Rattle.vod_fanout.specs.FanOut.{readers_of}
use Rattle.vod_level.specs.Peel.{times, IsReady, Peeling}
use Rattle.vod_level.proofs.Steps.{get_or_any}
use Rattle.vod_level.proofs.Taking.{next_below, readers_at, fed, peel_start, peel_end, peel_next, inside_all, get_or_zeros}
use Rattle.vod_level.proofs.peel.peel.Goals as goal

pub index-level-requires : goal.index-level-requires
index-level-requires c =
    let s = c.loop-next.invariant in
    let lt : c.loop-next.next < length c.loop-next.ready.items = omega arith in
    let is = get_or_any c.loop-next.ready.items c.loop-next.next c.index-driver.result.now 0 lt in
    let below = next_below c.args.feeds.now c.args.count c.loop-next.next c.loop-next.ready.items c.loop-next.levels.items c.loop-next.left.items lt s in
    omega (arith, s.levels_size, c.index-driver.ensures)

pub of-requires : goal.of-requires
of-requires c =
    let s = c.loop-next.invariant in
    let lt : c.loop-next.next < length c.loop-next.ready.items = omega arith in
    let is = get_or_any c.loop-next.ready.items c.loop-next.next c.index-driver.result.now 0 lt in
    let below = next_below c.args.feeds.now c.args.count c.loop-next.next c.loop-next.ready.items c.loop-next.levels.items c.loop-next.left.items lt s in
    omega (arith, c.index-driver.ensures, c.in_ok-readers.ensures.size)

below : (edges : List Feed) (n next : ℕ) (ready levels left : List ℕ) (driver : ℕ) → next < length ready → Peeling edges n next ready levels left → driver ≡ get_or ready next driver → driver < n
below edges n next ready levels left driver lt s is = let h = next_below edges n next ready levels left lt s in let e = get_or_any ready next driver 0 lt in omega arith

pub raise-requires-clause-inside : goal.raise-requires-clause-inside
raise-requires-clause-inside c =
    let s = c.loop-next.invariant in
    let inside = below c.args.feeds.now c.args.count c.loop-next.next c.loop-next.ready.items c.loop-next.levels.items c.loop-next.left.items c.index-driver.result.now (omega arith) s c.index-driver.ensures in
    let rs = readers_at c.args.feeds.now c.args.count c.index-driver.result.now c.in_ok-readers.readers c.of.result.now c.in_ok-readers.ensures.made inside c.of.ensures in
    inside_all c.args.feeds.now c.args.count c.index-driver.result.now c.of.result.now _ c.requires.readers rs (ap length c.deref_mut.ensures.value ∙ s.levels_size)

pub raise-requires-clause-low : goal.raise-requires-clause-low
raise-requires-clause-low c =
    let s = c.loop-next.invariant in
    let inside = below c.args.feeds.now c.args.count c.loop-next.next c.loop-next.ready.items c.loop-next.levels.items c.loop-next.left.items c.index-driver.result.now (omega arith) s c.index-driver.ensures in
    let low = s.low c.index-driver.result.now in
    let same = get_or_any c.loop-next.levels.items c.index-driver.result.now c.index-level.result.now 0 (omega (arith, s.levels_size)) in
    omega (arith, c.index-level.ensures, s.is_ready.room, s.left_size, c.requires.few)

pub of-requires-in-loop-next : goal.of-requires-in-loop-next
of-requires-in-loop-next c =
    let s = c.loop-next.invariant in
    let lt : c.loop-next.next < length c.loop-next.ready.items = omega arith in
    let is = get_or_any c.loop-next.ready.items c.loop-next.next c.index-driver.result.now 0 lt in
    let below = next_below c.args.feeds.now c.args.count c.loop-next.next c.loop-next.ready.items c.loop-next.levels.items c.loop-next.left.items lt s in
    omega (arith, c.index-driver.ensures, c.in_ok-readers.ensures.size)

pub release-requires-clause-inside : goal.release-requires-clause-inside
release-requires-clause-inside c =
    let s = c.loop-next.invariant in
    let inside = below c.args.feeds.now c.args.count c.loop-next.next c.loop-next.ready.items c.loop-next.levels.items c.loop-next.left.items c.index-driver.result.now (omega arith) s c.index-driver.ensures in
    let rs = readers_at c.args.feeds.now c.args.count c.index-driver.result.now c.in_ok-readers.readers c.of-in-loop-next.result.now c.in_ok-readers.ensures.made inside c.of-in-loop-next.ensures in
    inside_all c.args.feeds.now c.args.count c.index-driver.result.now c.of-in-loop-next.result.now _ c.requires.readers rs (ap length c.deref_mut-in-loop-next.ensures.value ∙ s.left_size)

pub release-requires-clause-before : goal.release-requires-clause-before
release-requires-clause-before c = let P : List ℕ → Type 0 = λ l. IsReady l c.loop-next.ready.items in subst P (sym c.deref_mut-in-loop-next.ensures.value) c.loop-next.invariant.is_ready

pub release-requires-clause-fed : goal.release-requires-clause-fed
release-requires-clause-fed c = λ q.
    let s = c.loop-next.invariant in
    let lt : c.loop-next.next < length c.loop-next.ready.items = omega arith in
    let inside = below c.args.feeds.now c.args.count c.loop-next.next c.loop-next.ready.items c.loop-next.levels.items c.loop-next.left.items c.index-driver.result.now lt s c.index-driver.ensures in
    let rs = readers_at c.args.feeds.now c.args.count c.index-driver.result.now c.in_ok-readers.readers c.of-in-loop-next.result.now c.in_ok-readers.ensures.made inside c.of-in-loop-next.ensures in
    let is : c.index-driver.result.now ≡ get_or c.loop-next.ready.items c.loop-next.next 0 = c.index-driver.ensures ∙ get_or_any c.loop-next.ready.items c.loop-next.next c.index-driver.result.now 0 lt in
    let f = fed c.args.feeds.now c.args.count c.loop-next.next c.loop-next.ready.items c.loop-next.levels.items c.loop-next.left.items c.requires.readers lt s q in
    let e = ap (λ l. times l q) (rs ∙ ap (readers_of c.args.feeds.now) is) in
    let held = ap (λ l. get_or l q 0) c.deref_mut-in-loop-next.ensures.value in
    omega arith

pub loop-next-init : goal.loop-next-init
loop-next-init c =
    let zeros = c.in_ok-levels.ensures.items_if_clones_equal (λ y e. e) in
    let P : List ℕ → Type 0 = λ l. IsReady l c.in_ok-ready.ready.items in
    peel_start c.args.feeds.now c.args.count c.in_ok-ready.ready.items c.in_ok-levels.levels.items c.in_ok-left.left.items (omega (arith, c.in_ok-levels.ensures.len)) c.in_ok-left.ensures.size (λ q. get_or_zeros c.args.count q c.in_ok-levels.levels.items zeros)
    c.in_ok-left.ensures.each (subst P c.as_slice.ensures.value c.in_ok-ready.ensures)

pub loop-next-preserved : goal.loop-next-preserved
loop-next-preserved c =
    let s = c.loop-next.invariant in
    let edges = c.args.feeds.now in
    let lt : c.loop-next.next < length c.loop-next.ready.items = omega arith in
    let inside = below edges c.args.count c.loop-next.next c.loop-next.ready.items c.loop-next.levels.items c.loop-next.left.items c.index-driver.result.now lt s c.index-driver.ensures in
    let is : c.index-driver.result.now ≡ get_or c.loop-next.ready.items c.loop-next.next 0 = c.index-driver.ensures ∙ get_or_any c.loop-next.ready.items c.loop-next.next c.index-driver.result.now 0 lt in
    let at : c.index-level.result.now ≡ get_or c.loop-next.levels.items c.index-driver.result.now 0 =
    c.index-level.ensures ∙ get_or_any c.loop-next.levels.items c.index-driver.result.now c.index-level.result.now 0 (omega (arith, s.levels_size)) in
    let rs = readers_at edges c.args.count c.index-driver.result.now c.in_ok-readers.readers c.of.result.now c.in_ok-readers.ensures.made inside c.of.ensures in
    let rs2 = readers_at edges c.args.count c.index-driver.result.now c.in_ok-readers.readers c.of-in-loop-next.result.now c.in_ok-readers.ensures.made inside c.of-in-loop-next.ensures in
    peel_next edges c.args.count c.loop-next.next c.loop-next.ready.items c.loop-next.levels.items c.loop-next.left.items c.index-driver.result.now c.index-level.result.now c.of.result.now c.of-in-loop-next.result.now
    c.deref_mut.result.now c.deref_mut-in-loop-next.result.now c.raise.new.levels c.release.new.left c.release.new.ready.items c.loop-next.levels.len c.loop-next.left.len c.requires.sources c.requires.readers lt s is at rs rs2
    c.deref_mut.ensures.value c.deref_mut-in-loop-next.ensures.value c.raise.auto.levels c.release.auto.left (omega arith) (omega arith) c.raise.ensures c.in_ok-release.ensures.left c.in_ok-release.ensures.after c.in_ok-release.ensures.behind

pub returns : goal.returns
returns c = peel_end c.args.feeds.now c.args.count c.loop-next.next c.loop-next.ready.items c.loop-next.levels.items c.loop-next.left.items c.requires.sources c.requires.readers (omega arith) c.loop-next.invariant
