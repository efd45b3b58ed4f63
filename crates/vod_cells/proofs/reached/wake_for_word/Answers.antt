use Rattle.std.proofs.Common.{length, length-set, ap, ◌∙◌}
use Rattle.std.specs.List.{list_any}
use Rattle.vod_slot.specs.Store.{is_word_read}
use Rattle.vod_cells.specs.Listening.{passes_at}
use Rattle.vod_cells.proofs.Raising.{raised_at-more, passes_at-is}
use Rattle.vod_cells.proofs.reached.wake_for_word.Goals as goal

pub loop-driver-preserved : goal.loop-driver-preserved
loop-driver-preserved c = record {
  size = ap length c.raise.ensures ∙ length-set _ _ _ ∙ c.loop-driver.invariant.size;
  raised = raised_at-more (passes_at (list_any (is_word_read c.args.memory c.args.place)) c.args.reads.now) c.args.wake.now c.loop-driver.wake c.raise.new.self c.args.drivers.now c.loop-driver.driver-index _ c.reads_word.result c.loop-driver-test.true c.loop-driver.invariant.raised
      (c.reads_word.ensures ∙ passes_at-is (list_any (is_word_read c.args.memory c.args.place)) c.args.reads.now _ _ (c.requires.reads c.loop-driver.driver-index _ c.loop-driver-test.true) c.index-reads-driver.is) c.raise.ensures;
}
