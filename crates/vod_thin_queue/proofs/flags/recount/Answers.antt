use Rattle.std.proofs.Common.{◌<◌, ◌∙◌, length, arith, length-set, refl, get_or-set_other}
use Rattle.vod_thin_queue.proofs.Tree.{enough, sums_but_parent}
use Rattle.vod_thin_queue.proofs.flags.recount.Goals as goal

pub mended-requires-clause-some : goal.mended-requires-clause-some
mended-requires-clause-some c =
    enough c.loop-node.node c.args.leaves c.args.added c.loop-node.counts c.loop-node.invariant.sums (omega arith) c.loop-node.invariant.within

pub loop-node-preserved : goal.loop-node-preserved
loop-node-preserved c =
    let within : c.loop-node.node < length c.loop-node.counts = omega arith in
    record {
      size = length-set c.loop-node.counts c.loop-node.node c.mended.result ∙ c.loop-node.invariant.size;
      within = omega arith;
      small = λ n one le. rw (get_or-set_other c.loop-node.counts c.loop-node.node n c.mended.result 0 (λ e. omega arith)) (c.loop-node.invariant.small n one (omega arith));
      same = λ n le. get_or-set_other c.loop-node.counts c.loop-node.node n c.mended.result 0 (λ e. omega arith) ∙ c.loop-node.invariant.same n le;
      sums = sums_but_parent c.loop-node.node _ c.args.leaves c.args.added c.loop-node.counts c.mended.result c.loop-node.invariant.sums (omega arith) c.loop-node.invariant.within within refl c.mended.ensures;
    }
