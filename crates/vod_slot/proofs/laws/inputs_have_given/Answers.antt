use Rattle.vod_slot.proofs.Runs.{first_given, next_given, moves_fit, unmixed_changes}
use Rattle.vod_slot.proofs.laws.inputs_have_given.Goals as goal

pub returns-clause-first : goal.returns-clause-first
returns-clause-first c = first_given c.value_hangs_on_reads.ensures

pub returns-clause-next : goal.returns-clause-next
returns-clause-next c = next_given c.value_hangs_on_reads.ensures

pub returns-clause-fits : goal.returns-clause-fits
returns-clause-fits c = moves_fit

pub returns-clause-unmixed : goal.returns-clause-unmixed
returns-clause-unmixed c = unmixed_changes
