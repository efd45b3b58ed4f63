use Rattle.vod_slot.proofs.Ends.{IsConsistent-start_of, IsConsistent-opened, IsConsistent-after, IsSettled-at_rest}
use Rattle.vod_slot.proofs.laws.drivers_are_followed.Goals as goal

pub returns-clause-start : goal.returns-clause-start
returns-clause-start c = IsConsistent-start_of

pub returns-clause-opened : goal.returns-clause-opened
returns-clause-opened c = IsConsistent-opened

pub returns-clause-after : goal.returns-clause-after
returns-clause-after c = IsConsistent-after c.value_hangs_on_reads.ensures

pub returns-clause-settled : goal.returns-clause-settled
returns-clause-settled c = IsSettled-at_rest
