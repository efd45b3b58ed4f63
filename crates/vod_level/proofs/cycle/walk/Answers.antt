use Rattle.std.proofs.Common.{◌∙◌, ℕ, List, ◌-◌, ap, sym, subst, arith}
use Rattle.vod_level.specs.Lists.{has}
use Rattle.vod_level.specs.Steps.{IsNearest}
use Rattle.vod_level.proofs.Counts.{has_reader}
use Rattle.vod_level.proofs.Taking.{readers_at, inside_all, feed_reader}
use Rattle.vod_level.proofs.Walking.{walk_nearer, walk_step, walk_end}
use Rattle.vod_level.proofs.cycle.walk.Goals as goal

pub nearest-driver-requires-clause-inside : goal.nearest-driver-requires-clause-inside
nearest-driver-requires-clause-inside c =
    let rs = readers_at c.args.feeds.now c.args.count c.loop-left.driver c.in_ok-readers.readers c.of.result.now c.in_ok-readers.ensures.made c.loop-left.invariant.inside c.of.ensures in
    inside_all c.args.feeds.now c.args.count c.loop-left.driver c.of.result.now _ c.requires.readers rs c.requires.steps.size

pub nearest-driver-requires-clause-some : goal.nearest-driver-requires-clause-some
nearest-driver-requires-clause-some c =
    let rs = readers_at c.args.feeds.now c.args.count c.loop-left.driver c.in_ok-readers.readers c.of.result.now c.in_ok-readers.ensures.made c.loop-left.invariant.inside c.of.ensures in
    let q = walk_nearer c.args.feeds.now c.args.count c.args.goal c.args.steps.now c.loop-left.driver c.loop-left.left c.requires.steps c.loop-left.invariant.walking.left_is c.loop-left-test.true in
    (q.0, ap (λ l. has l q.0) rs ∙ q.1, q.2)

pub loop-left-preserved : goal.loop-left-preserved
loop-left-preserved c =
    let rs = readers_at c.args.feeds.now c.args.count c.loop-left.driver c.in_ok-readers.readers c.of.result.now c.in_ok-readers.ensures.made c.loop-left.invariant.inside c.of.ensures in
    let P : List ℕ → Type 0 = λ l. IsNearest l c.args.steps.now (c.loop-left.left - 1) c.nearest-driver.result in
    let near = subst P rs c.nearest-driver.ensures in
    record {
      walking = walk_step c.args.feeds.now c.args.count c.args.goal c.args.steps.now c.loop-left.driver c.loop-left.left c.nearest-driver.result c.loop-left.cycle.items c.push-in-loop-left.new.self.items c.loop-left-test.true near
          c.in_ok-push-2.ensures.items c.loop-left.invariant.walking;
      inside = feed_reader c.args.feeds.now c.args.count c.loop-left.driver c.nearest-driver.result c.requires.readers (sym (has_reader c.args.feeds.now c.loop-left.driver c.nearest-driver.result) ∙ near.among);
    }

pub returns : goal.returns
returns c = walk_end c.args.feeds.now c.args.steps.now c.args.goal c.loop-left.driver c.loop-left.left c.loop-left.cycle.items (omega arith) c.loop-left.invariant.walking
