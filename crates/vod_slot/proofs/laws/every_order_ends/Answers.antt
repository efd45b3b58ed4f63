use Rattle.vod_slot.proofs.Ends.{weight-falls, order_length, can_complete, slot_end, run_exists}
use Rattle.vod_slot.proofs.laws.every_order_ends.Goals as goal

pub returns-clause-falls : goal.returns-clause-falls
returns-clause-falls c = weight-falls

pub returns-clause-order_ends : goal.returns-clause-order_ends
returns-clause-order_ends c = order_length c.value_hangs_on_reads.ensures

pub returns-clause-slot_exists : goal.returns-clause-slot_exists
returns-clause-slot_exists c = can_complete c.value_hangs_on_reads.ensures

pub returns-clause-settled : goal.returns-clause-settled
returns-clause-settled c = slot_end c.value_hangs_on_reads.ensures

pub returns-clause-run_exists : goal.returns-clause-run_exists
returns-clause-run_exists c = run_exists c.value_hangs_on_reads.ensures
