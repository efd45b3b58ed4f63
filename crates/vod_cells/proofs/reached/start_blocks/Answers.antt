use Rattle.std.proofs.Common.{length, length-set, ap, ◌∙◌}
use Rattle.vod_bits.specs.Value.{upper_bit}
use Rattle.vod_cells.specs.Listening.{passes_at, starts_block}
use Rattle.vod_cells.proofs.Raising.{raised_at-more, passes_at-is}
use Rattle.vod_cells.proofs.reached.start_blocks.Goals as goal

pub loop-block-preserved : goal.loop-block-preserved
loop-block-preserved c = record {
  size = ap length c.raise.ensures ∙ length-set _ _ _ ∙ c.loop-block.invariant.size;
  raised = raised_at-more (passes_at (starts_block c.args.signal (upper_bit c.args.old) (upper_bit c.args.new)) c.args.blocks.now) c.args.started.now c.loop-block.started c.raise.new.self c.args.listed.now c.loop-block.block-index _ c.is_started.result c.loop-block-test.true c.loop-block.invariant.raised
      (c.is_started.ensures ∙ passes_at-is (starts_block c.args.signal (upper_bit c.args.old) (upper_bit c.args.new)) c.args.blocks.now _ _ (c.requires.blocks c.loop-block.block-index _ c.loop-block-test.true) c.index-blocks-block.is) c.raise.ensures;
}
