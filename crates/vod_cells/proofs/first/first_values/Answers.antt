use Rattle.std.proofs.Common.{arith}
use Rattle.vod_cells.proofs.Opening.{input_flags_length, first_step}
use Rattle.vod_cells.proofs.first.first_values.Goals as goal

pub overflow_cast-n : goal.overflow_cast-n
overflow_cast-n c = omega (arith, c.loop-n-test.true, c.requires.few)

pub is_set-requires : goal.is_set-requires
is_set-requires c = omega (arith, c.loop-n-test.true, input_flags_length _ c.args.inputs.now c.in_ok-driven.driven c.in_ok-driven.ensures)

pub loop-n-preserved : goal.loop-n-preserved
loop-n-preserved c =
    first_step c.args.inputs.now c.args.signals.now c.loop-n.n c.index-signals-n.result c.loop-n.values.items c.push.new.self.items _ c.all_of.result c.in_ok-driven.driven c.is_set.result c.loop-n-test.true c.index-signals-n.is c.in_ok-driven.ensures c.is_set.ensures c.all_of.ensures c.in_ok-push.ensures.items c.loop-n.invariant
