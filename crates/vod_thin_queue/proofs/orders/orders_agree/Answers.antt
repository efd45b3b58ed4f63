use Rattle.vod_thin_queue.proofs.Ends.{same_first, first_end, same_slot_end, slot_end, same_run}
use Rattle.vod_thin_queue.proofs.orders.orders_agree.Goals as goal

pub returns-clause-one_end : goal.returns-clause-one_end
returns-clause-one_end c = same_slot_end c.value_hangs_on_reads.ensures

pub returns-clause-settled : goal.returns-clause-settled
returns-clause-settled c = slot_end c.value_hangs_on_reads.ensures

pub returns-clause-one_run : goal.returns-clause-one_run
returns-clause-one_run c = same_run c.value_hangs_on_reads.ensures

pub returns-clause-first_end : goal.returns-clause-first_end
returns-clause-first_end c = same_first c.value_hangs_on_reads.ensures

pub returns-clause-first_settled : goal.returns-clause-first_settled
returns-clause-first_settled c = first_end c.value_hangs_on_reads.ensures
