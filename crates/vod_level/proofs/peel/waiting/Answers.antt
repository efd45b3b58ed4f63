use Rattle.std.proofs.Common.{◌≡◌, ◌+◌, ◌<◌, [], length, take, get_or, ◌∙◌, arith, length-set}
use Rattle.vod_fanout.specs.declared.Feed.{Feed}
use Rattle.vod_level.specs.Peel.{waits}
use Rattle.vod_level.proofs.Steps.{waiting_step, waits_few, get_or_any}
use Rattle.std.proofs.lemmas.List.{length-take-le}
use Rattle.vod_level.proofs.peel.waiting.Goals as goal

pub overflow_add-index_mut : goal.overflow_add-index_mut
overflow_add-index_mut c =
    let feeds = c.args.feeds.now in
    let i = c.loop-feed.feed-index in
    let x = (get_or feeds i (record { source = 0; reader = 0 })).reader in
    let inside = c.requires.readers i (record { source = 0; reader = 0 }) c.loop-feed-test.true in
    let at : get_or c.loop-feed.waiting.items x 0 ≡ waits [] (take i feeds) x = c.loop-feed.invariant.1 x inside in
    let few = waits_few [] (take i feeds) x in
    let size = length-take-le i feeds (omega arith) in
    let bound : x < length c.loop-feed.waiting.items = omega (arith, c.loop-feed.invariant.0) in
    let same = get_or_any c.loop-feed.waiting.items x c.index_mut.result.now 0 bound in
    omega (arith, c.index_mut.ensures.value, c.requires.short)

pub loop-feed-preserved : goal.loop-feed-preserved
loop-feed-preserved c =
    let feeds = c.args.feeds.now in
    let i = c.loop-feed.feed-index in
    let d : Feed = record { source = 0; reader = 0 } in
    let x = (get_or feeds i d).reader in
    let inside = c.requires.readers i d c.loop-feed-test.true in
    let bound : x < length c.loop-feed.waiting.items = omega (arith, c.loop-feed.invariant.0) in
    let same = get_or_any c.loop-feed.waiting.items x c.index_mut.result.now 0 bound in (
      length-set c.loop-feed.waiting.items x (c.index_mut.result.now + 1) ∙ c.loop-feed.invariant.0,
      waiting_step feeds c.loop-feed.waiting.items i c.args.count d c.index_mut.result.now c.loop-feed-test.true c.loop-feed.invariant.0 inside (c.index_mut.ensures.value ∙ same) c.loop-feed.invariant.1,
    )
