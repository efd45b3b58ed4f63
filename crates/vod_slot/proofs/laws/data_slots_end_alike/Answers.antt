use Rattle.vod_slot.proofs.Data.{data_slot}
use Rattle.vod_slot.proofs.laws.data_slots_end_alike.Goals as goal

pub returns : goal.returns
returns c = data_slot c.value_hangs_on_reads.ensures
