-- Each name is one that the table lacks, and goes last.
use Rattle.vod_thin_script.proofs.Names.{table_more, table_whole, few_inputs, input_within}
use Rattle.vod_thin_script.proofs.inputs.Inputs.of.Goals as goal

pub invariant_of-result : goal.invariant_of-result
invariant_of-result c = (
  table_whole c.args.design.now _ c.inputs-input-items.ensures.items _ c.loop-input-test.false _ c.loop-input.invariant,
  few_inputs c.args.design.now c.signals-signals.ensures.accepted,
)

pub loop-input-preserved : goal.loop-input-preserved
loop-input-preserved c =
    table_more c.args.design.now c.requires c.signals-signals.ensures.accepted _ _ c.signals-signals.ensures.items c.inputs-input-items.ensures.items
    _ _ _ c.loop-input-test.true _ _ _ c.as_slice.ensures c.loop-input.invariant c.in_ok-insert.ensures.keys

pub bounds-signals-input : goal.bounds-signals-input
bounds-signals-input c =
    input_within c.args.design.now c.signals-signals.ensures.accepted _ _ c.signals-signals.ensures.items c.inputs-input-items.ensures.items c.loop-input.input-index _ c.loop-input-test.true
