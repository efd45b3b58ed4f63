use Rattle.vod_slot.proofs.First.{first_slot}
use Rattle.vod_slot.proofs.laws.first_slots_end_alike.Goals as goal

pub returns : goal.returns
returns c = first_slot c.value_hangs_on_reads.ensures
