use Rattle.vod_slot.proofs.Runs.{one_end, one_run}
use Rattle.vod_slot.proofs.laws.orders_agree.Goals as goal

pub returns-clause-one_end : goal.returns-clause-one_end
returns-clause-one_end c = one_end c.value_hangs_on_reads.ensures

pub returns-clause-one_run : goal.returns-clause-one_run
returns-clause-one_run c = one_run c.value_hangs_on_reads.ensures
