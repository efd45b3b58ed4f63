use Rattle.std.proofs.Common.{◌≡◌, ◌-◌, ◌&&◌, ◌||◌, ◌==◌, ap, ◌∙◌, arith}
use Rattle.vod_level.specs.Lists.{has_feed}
use Rattle.vod_level.specs.Bits.{writes_among}
use Rattle.vod_level.proofs.Writing.{span_step}
use Rattle.vod_level.proofs.edges.add_span.Goals as goal

pub loop-bit-preserved : goal.loop-bit-preserved
loop-bit-preserved c = record {
  within = omega arith;
  feeds = λ p q. span_step c.args.writers.now c.args.span.first c.loop-bit.bit c.args.reader p q c.args.list.now.items c.loop-bit.list.items c.add_writers.new.list.items c.of.result.now (omega arith) c.of.ensures (c.loop-bit.invariant.feeds p q)
      (c.in_ok-add_writers.ensures p q);
}

pub returns : goal.returns
returns c = λ p q.
    let within = c.loop-bit.invariant.within in
    let same : c.loop-bit.bit - c.args.span.first ≡ c.args.span.end - c.args.span.first = omega (arith, c.loop-bit-test.false) in
    c.loop-bit.invariant.feeds p q ∙ ap (λ n. has_feed c.args.list.now.items p q || (writes_among c.args.writers.now c.args.span.first n p && (c.args.reader == q))) same
